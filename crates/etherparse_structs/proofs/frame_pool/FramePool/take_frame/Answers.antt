use Rattle.std.proofs.Common.{refl}
use Rattle.etherparse.specs.PoolCalls.{ShowsLists, fault_in}
use Rattle.etherparse.specs.packet.Class.{sliced_class}
use Rattle.etherparse_structs.specs.declared.frame_pool.Added.TheVariants as made
use Rattle.etherparse_structs.proofs.PoolLemmas.{none_completed, one_completed}
use Rattle.etherparse_structs.proofs.frame_pool.FramePool.take_frame.Goals as goal

pub returns-in-Completed-clause-answered : goal.returns-in-Completed-clause-answered
returns-in-Completed-clause-answered c none lists shows =
    one_completed c.add.result c.in-Completed.message (ShowsLists c.add.new.pool)
    (ShowsLists c.copy_out.new.self.pool) lists (sliced_class c.args.sliced) c.args.time
    c.args.channel (fault_in c.args.sliced) c.args.output.now
    c.copy_out.new.output c.copy_out.result c.copy_out.new.self.kept c.in-Completed.is
    (c.add.ensures.reported lists shows) c.add.ensures.addresses c.copy_out.ensures.reported
    c.copy_out.ensures.kept c.copy_out.ensures.output c.copy_out.ensures.lists

pub returns-in-Refused-clause-answered : goal.returns-in-Refused-clause-answered
returns-in-Refused-clause-answered c none lists shows =
    none_completed c.add.result (made.Refused c.in-Refused.error) (ShowsLists c.add.new.pool)
    lists (sliced_class c.args.sliced) c.args.time c.args.channel
    (fault_in c.args.sliced) c.args.output.now c.args.output.now
    c.fragment_refused.result c.args.self.now.kept c.in-Refused.is (c.add.ensures.reported lists shows)
    refl none c.fragment_refused.ensures refl

pub returns-in-NotSliced-clause-answered : goal.returns-in-NotSliced-clause-answered
returns-in-NotSliced-clause-answered c none lists shows =
    none_completed c.add.result (made.NotSliced c.in-NotSliced.error) (ShowsLists c.add.new.pool)
    lists (sliced_class c.args.sliced) c.args.time c.args.channel
    (fault_in c.args.sliced) c.args.output.now c.args.output.now
    c.frame_refused.result c.args.self.now.kept c.in-NotSliced.is
    (c.add.ensures.reported lists shows) refl none c.frame_refused.ensures refl
