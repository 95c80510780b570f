-- Literal packets, at which laws state the definitions' values.
use Rattle.std.specs.Prelude.{ℕ, true, List, [], ◌∷◌, ◌++◌, Some}
use Rattle.ep_base.specs.declared.len_source.LenSource.TheVariants.{Ipv6HeaderPayloadLen}
use Rattle.ep_ext.specs.Value.{Piece}
use Rattle.ep_ext.specs.declared.net.ipv6_ext_slot.Ipv6ExtSlot.TheVariants.{HopByHop, Fragment}
use Rattle.ep_ipslice.specs.Packet.{Ipv4Packet, Ipv6Packet}

-- a header of 20 bytes with a total length of 34 and protocol 51
abbrev pub example_header : List ℕ
example_header = 0x45 ∷ 0 ∷ 0 ∷ 34 ∷ 0 ∷ 7 ∷ 0 ∷ 0 ∷ 64 ∷ 51 ∷ 0 ∷ 0 ∷ 10 ∷ 0 ∷ 0 ∷
    1 ∷ 10 ∷ 0 ∷ 0 ∷ 2 ∷ []

-- an authentication header of 12 bytes that names UDP
abbrev pub example_auth : List ℕ
example_auth = 17 ∷ 1 ∷ 0 ∷ 0 ∷ 1 ∷ 2 ∷ 3 ∷ 4 ∷ 5 ∷ 6 ∷ 7 ∷ 8 ∷ []

-- both, two bytes of payload and one of padding
abbrev pub example_ipv4 : List ℕ
example_ipv4 = example_header ++ example_auth ++ 0xaa ∷ 0xbb ∷ [] ++ 0 ∷ []

abbrev pub example_ipv4_packet : Ipv4Packet
example_ipv4_packet =
    record { header = example_header; auth = Some example_auth; payload = 0xaa ∷ 0xbb ∷ [] }

-- the header of a fragment in the middle of a datagram: identification 0102, offset 5, more
-- fragments
abbrev pub fragment_header : List ℕ
fragment_header = 0x45 ∷ 0 ∷ 0 ∷ 28 ∷ 1 ∷ 2 ∷ 0x20 ∷ 5 ∷ 64 ∷ 17 ∷ 0 ∷ 0 ∷ 10 ∷ 0 ∷ 0 ∷
    1 ∷ 10 ∷ 0 ∷ 0 ∷ 2 ∷ []

-- an IPv6 header with a payload length of 24 and next header 0, from fd00::1 to fd00::2
abbrev pub example_ipv6_header : List ℕ
example_ipv6_header =
    0x60 ∷ 0 ∷ 0 ∷ 0 ∷ 0 ∷ 24 ∷ 0 ∷ 64 ∷ 0xfd ∷ 0 ∷ 0 ∷ 0 ∷ 0 ∷ 0 ∷ 0 ∷ 0 ∷ 0 ∷
    0 ∷ 0 ∷ 0 ∷ 0 ∷ 0 ∷ 0 ∷ 1
    ∷ 0xfd ∷ 0 ∷ 0 ∷ 0 ∷ 0 ∷ 0 ∷ 0 ∷ 0 ∷ 0 ∷ 0 ∷ 0 ∷ 0 ∷ 0 ∷ 0 ∷ 0 ∷ 2 ∷ []

-- hop-by-hop options that name a fragment header: a padding of six bytes
abbrev pub example_options : List ℕ
example_options = 44 ∷ 0 ∷ 1 ∷ 4 ∷ 0 ∷ 0 ∷ 0 ∷ 0 ∷ []

-- a fragment header that names UDP: offset 1, more fragments, identification 01020304
abbrev pub example_fragment : List ℕ
example_fragment = 17 ∷ 0 ∷ 0 ∷ 9 ∷ 1 ∷ 2 ∷ 3 ∷ 4 ∷ []

abbrev pub example_pieces : List Piece
example_pieces = (HopByHop, example_options) ∷ (Fragment, example_fragment) ∷ []

abbrev pub example_ipv6_payload : List ℕ
example_ipv6_payload = 1 ∷ 2 ∷ 3 ∷ 4 ∷ 5 ∷ 6 ∷ 7 ∷ 8 ∷ []

-- all of them, and one byte of padding
abbrev pub example_ipv6 : List ℕ
example_ipv6 = example_ipv6_header ++ example_options ++ example_fragment
    ++ example_ipv6_payload ++ 0 ∷ []

abbrev pub example_ipv6_packet : Ipv6Packet
example_ipv6_packet = record {
  header = example_ipv6_header;
  exts = record {
    first_header = Some (record { 0 = 0 });
    fragmented = true;
    slice = example_options ++ example_fragment;
  };
  payload = record {
    ip_number = record { 0 = 17 };
    fragmented = true;
    len_source = Ipv6HeaderPayloadLen;
    payload = example_ipv6_payload;
  };
}
