-- Headers of an IPv6 packet as values agree with its view.
use Rattle.std.proofs.Common.{arith, ◌≡◌, ℕ, false, List, [], ◌++◌, append_assoc, length-append}
use Rattle.std.specs.Option.{option_map_or}
use Rattle.std.specs.List.{list_any}
use Rattle.ep_ext.specs.Chain.{Row}
use Rattle.ep_ext.specs.Follow.{has_slot}
use Rattle.ep_ext.specs.Fragment.{fragments}
use Rattle.ep_ext.specs.Slot.{slot_of}
use Rattle.ep_ext.specs.Value.{Piece, bytes_of, value_of}
use Rattle.ep_ext.specs.declared.net.ipv6_extensions.Ipv6Extensions.{Ipv6Extensions}
use Rattle.ep_ip.specs.Ipv6.{ipv6_header_of, next_header_of}
use Rattle.ep_ipslice.specs.Ipv6Exts.{exts_of, view_order, is_fragmenting_piece}
use Rattle.ep_ipslice.specs.Packet.{IpPayload, Ipv6Packet, IsIpv6Packet}
use Rattle.ep_packet.specs.IpHeaders.{is_fragmenting}
use Rattle.ep_packet.specs.ReadIpHeaders.{IsIpv6Headers}
use Rattle.ep_packet.specs.declared.net.ip_headers.IpHeaders.{IpHeaders}
use Rattle.ep_packet.specs.declared.net.ip_headers.IpHeaders.TheVariants as ip

-- that headers in the slots of one value are headers of a view
abbrev pub SlotsAreViews : Type 0
SlotsAreViews =
    (first : ℕ) (pieces : List Piece) (last : ℕ) → Row slot_of [] first pieces last
    → (q : List Piece) × Row view_order [] first q last × (bytes_of q ≡ bytes_of pieces)
    × (list_any is_fragmenting_piece q ≡ option_map_or fragments (value_of pieces).fragment false)

-- the packet of the same headers, as a view has it
view_is : (bytes : List ℕ) (headers : IpHeaders) (payload : IpPayload)
    (is : IsIpv6Headers bytes headers payload) (q : List Piece)
    → Row view_order [] (next_header_of is.header) q is.last → bytes_of q ≡ bytes_of is.pieces →
    list_any is_fragmenting_piece q ≡ option_map_or fragments (value_of is.pieces).fragment false
    → has_slot payload.ip_number.0 ≡ false →
    IsIpv6Packet bytes
    (record {
      header = is.header;
      exts = exts_of (next_header_of is.header) q;
      payload = payload;
    })
view_is bytes headers payload is q row same parted none =
    let body : is.body ≡ bytes_of q ++ payload.payload =
    grind arith in
    let fragment : is_fragmenting headers ≡ list_any is_fragmenting_piece q =
    grind arith in
    grind (arith, append_assoc, length-append)

pub agree : (bytes : List ℕ) → SlotsAreViews
    → ((p q : Ipv6Packet) → IsIpv6Packet bytes p → IsIpv6Packet bytes q → p ≡ q) →
    (packet : Ipv6Packet) (headers : IpHeaders) (payload : IpPayload) → IsIpv6Packet bytes packet
    → IsIpv6Headers bytes headers payload → has_slot payload.ip_number.0 ≡ false →
    (payload ≡ packet.payload)
    × ((e : Ipv6Extensions) × (headers ≡ ip.Ipv6 (ipv6_header_of packet.header) e))
agree bytes placed alone packet headers payload begins is none =
    let q = placed (next_header_of is.header) is.pieces is.last is.chain.row in
    let mine : Ipv6Packet =
    record {
      header = is.header;
      exts = exts_of (next_header_of is.header) q.0;
      payload = payload;
    } in
    let same : mine ≡ packet = alone mine packet
    (view_is bytes headers payload is q.0 q.1 q.2 q.3 none) begins in (
      cc same,
      (
        value_of is.pieces,
        grind arith,
      ),
    )
