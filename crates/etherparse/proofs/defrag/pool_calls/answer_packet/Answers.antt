use Rattle.std.proofs.Common.{sym, subst}
use Rattle.ep_packet.specs.Class.{packet_parsed}
use Rattle.etherparse.specs.PoolCalls.{FrameAnswered, ShowsLists, CallResult}
use Rattle.etherparse.proofs.defrag.pool_calls.answer_packet.Goals as goal

pub returns-clause-answered : goal.returns-clause-answered
returns-clause-answered g c fault lists shows =
    let e = c.process_sliced_packet.ensures in
    let class = packet_parsed c.args.packet.now in
    let pool = c.process_sliced_packet.new.self in
    subst (λ (reported : CallResult). FrameAnswered (ShowsLists pool) lists class c.args.timestamp
    c.args.channel fault reported) (sym c.answer_of.ensures)
    (c.packets_are_answered.ensures c.args.pool.now pool class c.args.timestamp c.args.channel
    c.process_sliced_packet.result
    (record {
      passed = e.passed;
      accepted = e.accepted;
      refused = e.refused;
      others = e.others;
      err = e.err;
    }) c.requires fault lists shows)
