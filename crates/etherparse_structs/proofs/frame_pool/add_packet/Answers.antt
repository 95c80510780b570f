use Rattle.std.proofs.Common.{◌∙◌, ap, subst, sym}
use Rattle.etherparse.specs.PoolCalls.{FrameAnswered, ShowsLists}
use Rattle.etherparse.specs.packet.Class.{Class, as_class}
use Rattle.etherparse_structs.specs.FramePool.{call_result_of}
use Rattle.etherparse_structs.proofs.frame_pool.add_packet.Goals as goal

pub returns-in-Cut-clause-reported : goal.returns-in-Cut-clause-reported
returns-in-Cut-clause-reported c fault lists shows =
    subst (λ (k : Class). FrameAnswered (ShowsLists c.add_fragment.new.pool) lists k c.args.time
    c.args.channel fault (call_result_of c.add_fragment.result))
    (ap as_class (sym c.in-Cut.is) ∙ c.class.ensures.class)
    (c.add_fragment.ensures.reported fault lists shows)
