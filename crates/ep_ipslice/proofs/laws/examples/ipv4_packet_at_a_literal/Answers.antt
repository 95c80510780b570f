use Rattle.std.proofs.Common.{[], ◌∷◌, refl, lit≤}
use Rattle.ep_ipslice.proofs.laws.examples.ipv4_packet_at_a_literal.Goals as goal

pub returns-clause-packet : goal.returns-clause-packet
returns-clause-packet c = record {
  padding = 0 ∷ [];
  cut = refl;
  header = record { version = refl; minimum = lit≤ tt; whole = refl };
  auth = (refl, record { least = lit≤ tt; whole = refl });
  total = refl;
}
