-- An extension header of an IP packet, as fields and numbers.
use Rattle.std.specs.Prelude.{ℕ, ◌+◌, ◌==◌, false, if◌then◌else◌, List, [], ◌∷◌, length, drop, Option, Some, None}
use Rattle.etherparse.specs.base.Bytes.{num}
use Rattle.etherparse.specs.base.declared.err.layer.Layer.TheVariants as layer
use Rattle.etherparse.specs.ext.Auth.{auth_of}
use Rattle.etherparse.specs.ext.Fragment.{fragment_header_of}
use Rattle.etherparse.specs.ext.Value.{Piece}
use Rattle.etherparse.specs.ext.declared.net.ipv6_ext_slot.Ipv6ExtSlot.TheVariants as slot
use Rattle.etherparse.specs.ipslice.Ipv6Exts.{slot_after}
use Rattle.etherparse.specs.ipslice.Ipv6Walk.{piece_at_start, pieces_left}
use Rattle.etherparse_structs.specs.Part.{no_part, part_after, part_at, part_bytes}
use Rattle.etherparse_structs.specs.Refusal.{layer_number}
use Rattle.etherparse_structs.specs.declared.extension.EpExtension.{EpExtension}
use Rattle.etherparse_structs.specs.declared.extension.EpExtensions.{EpExtensions}
use Rattle.etherparse_structs.specs.declared.packet.EpPacket.{EpPacket}

abbrev pub no_extension : EpExtension
no_extension = record {
  header = no_part;
  payload = no_part;
  layer = 0;
  identification = 0;
  spi = 0;
  sequence_number = 0;
  fragment_offset = 0;
  number = 0;
  next_header = 0;
  more_fragments = false;
}

-- what every header has: its offset, number and layer, and the number of what follows it
abbrev pub any_struct : (place number layer : ℕ) → List ℕ → EpExtension
any_struct place number layer header = record no_extension {
  header = part_at place header;
  layer = layer;
  number = number;
  next_header = num header 0 1;
}

-- options or routing: what follows the first two bytes
abbrev pub raw_struct : (place number layer : ℕ) → List ℕ → EpExtension
raw_struct place number layer header =
    record (any_struct place number layer header) { payload = part_at (place + 2) (drop 2 header) }

abbrev pub fragment_struct : ℕ → List ℕ → EpExtension
fragment_struct place header = record (any_struct place 44 (layer_number layer.Ipv6FragHeader) header) {
  identification = (fragment_header_of header).identification;
  fragment_offset = (fragment_header_of header).fragment_offset;
  more_fragments = (fragment_header_of header).more_fragments;
}

-- authentication: what follows the sequence number
abbrev pub auth_struct : ℕ → List ℕ → EpExtension
auth_struct place header = record (any_struct place 51 (layer_number layer.IpAuthHeader) header) {
  payload = part_at (place + 12) (drop 12 header);
  spi = (auth_of header).spi;
  sequence_number = (auth_of header).sequence_number;
}

-- a header at this offset
abbrev pub extension_struct : ℕ → Piece → EpExtension
extension_struct place (slot.HopByHop, header) =
    raw_struct place 0 (layer_number layer.Ipv6HopByHopHeader) header
extension_struct place (slot.Destination, header) =
    raw_struct place 60 (layer_number layer.Ipv6DestOptionsHeader) header
extension_struct place (slot.Routing, header) =
    raw_struct place 43 (layer_number layer.Ipv6RouteHeader) header
extension_struct place (slot.Fragment, header) = fragment_struct place header
extension_struct place (slot.Authentication, header) = auth_struct place header
extension_struct place (slot.FinalDestination, header) =
    raw_struct place 60 (layer_number layer.Ipv6DestOptionsHeader) header

-- headers in a row, from this offset on
abbrev pub extensions_from : ℕ → List Piece → List EpExtension
extensions_from place [] = []
extensions_from place (piece ∷ pieces) =
    extension_struct place piece ∷ extensions_from (place + length piece.1) pieces

-- all headers that are left, in their order
abbrev pub extensions_left : List ℕ → EpExtensions → List EpExtension
extensions_left bytes left =
    extensions_from left.left.offset (pieces_left left.next_header (part_bytes bytes left.left))

-- the first of them, where the number names a header and the bytes start with a whole one
abbrev pub first_piece : List ℕ → EpExtensions → Option Piece
first_piece bytes left =
    piece_at_start (slot_after false left.next_header) (part_bytes bytes left.left)

-- the first of them, where there is one
abbrev pub first_struct : ℕ → Option Piece → EpExtension
first_struct place None = no_extension
first_struct place (Some piece) = extension_struct place piece

-- what is left after it
abbrev pub left_after : Option Piece → EpExtensions → EpExtensions
left_after None left = left
left_after (Some piece) left = record {
  left = part_after (length piece.1) left.left;
  next_header = num piece.1 0 1;
}

-- a struct without a layer is none
abbrev pub some_extension : EpExtension → Option EpExtension
some_extension extension = if extension.layer == 0 then None else Some extension

-- the extension headers of a packet of IP, of which the IP header names the first
abbrev pub packet_extensions : EpPacket → EpExtensions
packet_extensions packet =
    if packet.net == 4 then record {
      left = packet.ipv4.extensions;
      next_header = packet.ipv4.protocol;
    } else (
    if packet.net == 6 then record {
      left = packet.ipv6.extensions;
      next_header = packet.ipv6.next_header;
    } else record { left = no_part; next_header = 0 })
