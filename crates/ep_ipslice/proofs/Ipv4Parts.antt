-- The parts of an IPv4 packet.
use Rattle.std.proofs.Common.{◌≡◌, ℕ, ◌+◌, ◌≤◌, Bool, List, ◌++◌, length, take, drop, Option, [], Ok, sym, append_assoc}
use Rattle.std.proofs.Common.{length-append, arith}
use Rattle.std.proofs.lemmas.Bool.{le-ltb}
use Rattle.std.proofs.lemmas.List.{append-nil, drop_at}
use Rattle.ep_base.specs.declared.len_source.LenSource.TheVariants.{Ipv4HeaderTotalLen}
use Rattle.ep_base.specs.declared.net.ip_number.IpNumber.{IpNumber}
use Rattle.ep_ip.specs.Ipv4.{IsIpv4Header, is_fragment, protocol_of, total_len_of}
use Rattle.ep_ext.specs.Auth.{IsAuth}
use Rattle.ep_ext.specs.Chain.{prefix_of}
use Rattle.ep_ext.specs.Ipv4Exts.{IsAuthAfter, auth_after, auth_bytes, number_after}
use Rattle.ep_ext.specs.declared.net.ipv6_ext_slot.Ipv6ExtSlot.TheVariants.{Authentication}
use Rattle.ep_ipslice.specs.Packet.{IpPayload, Ipv4Packet, IsIpv4Packet, IsWholeIpv4, ipv4_bytes, ipv4_payload}
use Rattle.ep_ipslice.specs.Ipv4Packet.{packet_with}
use Rattle.ep_ipslice.proofs.Cuts.{header_body_rest, header_body_len, body_again}

-- a packet is there where its header, its total length and its authentication header were found
pub packet_found : (bytes header rest whole body payload : List ℕ) (auth : Option (List ℕ))
    (total : ℕ) → IsIpv4Header header → bytes ≡ header ++ rest
    → total ≡ total_len_of header → length header ≤ total → total ≤ length bytes
    → whole ≡ take total bytes → body ≡ drop (length header) whole
    → IsAuthAfter (protocol_of header) auth → body ≡ auth_bytes auth ++ payload
    → IsIpv4Packet bytes (record { header = header; auth = auth; payload = payload })
packet_found bytes header rest whole body payload auth total is parts counted fits
    most cut following has split =
    let len = header_body_len bytes header rest whole body total parts fits most cut following in
    let body_len : length body ≡ length (auth_bytes auth) + length payload =
    grind (arith, length-append) in
    record {
      padding = drop total bytes;
      cut =
          grind (arith, header_body_rest, append_assoc);
      header = is;
      auth = has;
      total = omega (arith, len, body_len, counted);
    }

-- that a whole authentication header is found, whatever follows it
abbrev pub IsFound : Type 0
IsFound = (header rest : List ℕ) → IsAuth header
    → prefix_of Authentication (header ++ rest) ≡ Ok header

-- an authentication header is found where there is one
pub auth_found : IsFound → (number : ℕ) (auth : Option (List ℕ)) (payload : List ℕ)
    → IsAuthAfter number auth → auth_after number (auth_bytes auth ++ payload) ≡ Ok auth
auth_found found number auth payload none = grind arith

-- a packet is read where it is
pub packet_again : IsFound → (bytes : List ℕ) (packet : Ipv4Packet) → IsIpv4Packet bytes packet
    → packet_with bytes (Ok packet.header) ≡ Ok packet
packet_again found bytes packet is =
    grind (arith, append_assoc, length-append, body_again, le-ltb, auth_found, drop_at)

-- what follows a packet doesn't belong to it
pub packet_by_itself : (bytes : List ℕ) (packet : Ipv4Packet)
    → IsIpv4Packet bytes packet → IsWholeIpv4 packet
packet_by_itself bytes packet is = record {
  padding = [];
  cut = sym (append-nil (ipv4_bytes packet));
  header = is.header;
  auth = is.auth;
  total = is.total;
}

-- what is read of a payload is what its packet says
pub payload_agrees : (header : List ℕ) (auth : Option (List ℕ)) (number : IpNumber)
    (fragmented : Bool) (payload : List ℕ) (protocol : ℕ) → protocol ≡ protocol_of header
    → number.0 ≡ number_after protocol auth
    → fragmented ≡ is_fragment header
    → ◌≡◌ {A = IpPayload}
    (record {
      ip_number = number;
      fragmented = fragmented;
      len_source = Ipv4HeaderTotalLen;
      payload = payload;
    })
    (ipv4_payload (record { header = header; auth = auth; payload = payload }))
payload_agrees header auth number fragmented payload protocol named following fragment_flag =
    grind arith
