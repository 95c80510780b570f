use Rattle.packets.proofs.TableLemmas.{keys-moved}
use Rattle.packets.proofs.flows.counted_flows.CountedFlows.reserve.Goals as goal

pub returns-clause-same : goal.returns-clause-same
returns-clause-same g c = λ packets old. record {
  all = old.all;
  refused = old.refused;
  without_ip = old.without_ip;
  conversations = keys-moved c.args.self.now.conversations c.reserve.new.self packets
      c.reserve.ensures.same old.conversations;
}
