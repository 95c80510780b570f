use Rattle.std.proofs.Common.{◌++◌, ◌∷◌, [], refl}
use Rattle.ep_base.specs.declared.len_source.LenSource.TheVariants.{Ipv6HeaderPayloadLen}
use Rattle.ep_ext.specs.declared.net.ipv6_ext_slot.Ipv6ExtSlot.TheVariants.{Fragment}
use Rattle.ep_packet.specs.Examples.{eight_bytes, ipv6_header, second_fragment}
use Rattle.ep_packet.proofs.laws.headers.ipv6_headers_at_a_literal.Goals as goal

pub returns : goal.returns
returns c = record {
  header = ipv6_header 16;
  source = Ipv6HeaderPayloadLen;
  body = second_fragment ++ eight_bytes;
  pieces = (Fragment, second_fragment) ∷ [];
  last = 17;
  begins = record {
    padding = 0 ∷ [];
    cut = refl;
    whole = record { version = refl; whole = refl };
    size = refl;
    bounded = refl;
  };
  chain = record {
    row = (refl, record { whole = refl }, refl);
    cut = refl;
    ended = λ position header following named piece is. cc named;
  };
  ended = refl;
  value = refl;
  returned = refl;
}
