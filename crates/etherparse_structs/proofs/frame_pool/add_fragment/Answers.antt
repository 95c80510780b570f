use Rattle.std.proofs.Common.{sym, subst}
use Rattle.etherparse.specs.PoolCalls.{FrameAnswered, ShowsLists, CallResult}
use Rattle.etherparse.specs.packet.Class.{as_class}
use Rattle.etherparse.specs.packet.declared.class.Class.TheVariants as class
use Rattle.etherparse_structs.proofs.frame_pool.add_fragment.Goals as goal

pub returns-clause-reported : goal.returns-clause-reported
returns-clause-reported c fault lists shows =
    let e = c.process_fragment.ensures in
    let part = as_class (class.Cut c.args.message) in
    let pool = c.process_fragment.new.self in
    subst (λ (reported : CallResult). FrameAnswered (ShowsLists pool) lists part c.args.time
    c.args.channel fault reported) (sym c.outcome_of.ensures.reported)
    (c.packets_are_answered.ensures c.args.pool.now pool part c.args.time c.args.channel
    c.process_fragment.result
    (record {
      passed = λ none. cc;
      accepted = e.accepted;
      refused = e.refused;
      others = e.others;
      err = e.err;
    }) (λ faulty. cc) fault lists shows)
