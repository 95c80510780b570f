use Rattle.std.proofs.Common.{refl}
use Rattle.packets.proofs.TableLemmas.{keys-none}
use Rattle.packets.proofs.flows.counted_flows.CountedFlows.with_hasher.Goals as goal

pub returns : goal.returns
returns g c = record {
  all = refl;
  refused = refl;
  without_ip = refl;
  conversations = keys-none c.with_hasher.result (λ kind. refl) c.with_hasher.ensures;
}
