use Rattle.std.proofs.Common.{[], ◌∷◌, refl, lit≤}
use Rattle.ep_ipslice.specs.Examples.{example_pieces}
use Rattle.ep_ipslice.proofs.laws.examples.ipv6_packet_at_a_literal.Goals as goal

pub returns-clause-packet : goal.returns-clause-packet
returns-clause-packet c = record {
  pieces = example_pieces;
  last = 17;
  padding = 0 ∷ [];
  cut = refl;
  header = record { version = refl; whole = refl };
  row = (refl, record { least = lit≤ tt; whole = refl }, (refl, record { whole = refl }, refl));
  ended = refl;
  size = refl;
  exts = refl;
  fields = refl;
}
