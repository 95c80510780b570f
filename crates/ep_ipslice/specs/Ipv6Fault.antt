-- Why bytes begin with no IPv6 packet (RFC 8200, sections 3 and 4).
use Rattle.std.specs.Prelude.{◌≡◌, ◌<◌, ◌≤◌, ℕ, ◌+◌, ◌-◌, List, length, take, drop, Some, Ok, Err}
use Rattle.ep_base.specs.LenError.{offset_by, too_few_bytes}
use Rattle.ep_base.specs.declared.err.layer.Layer.TheVariants as layer
use Rattle.ep_base.specs.declared.len_source.LenSource.{LenSource}
use Rattle.ep_ip.specs.Ipv6.{next_header_of, payload_length_of}
use Rattle.ep_ip.specs.Ipv6Fault.{header_at}
use Rattle.ep_base.specs.declared.err.slice_error.SliceError.{SliceError as HeaderSliceError}
use Rattle.ep_base.specs.declared.err.slice_error.SliceError.TheVariants as slice_error
use Rattle.ep_ip.specs.declared.err.ipv6.header_error.HeaderError.{HeaderError as HeaderFault}
use Rattle.ep_ext.specs.Chain.{Chain, Fault, fault_of}
use Rattle.ep_ext.specs.Slot.{Order}
use Rattle.ep_ext.specs.Value.{Piece}
use Rattle.ep_ext.specs.declared.err.ipv6_exts.header_error.HeaderError.{HeaderError as ExtsFault}
use Rattle.ep_ipslice.specs.Ipv6Exts.{view_order}
use Rattle.ep_ipslice.specs.Packet.{body_len, body_source}
use Rattle.ep_ipslice.specs.declared.err.ipv6.slice_error.SliceError.{SliceError}
use Rattle.ep_ipslice.specs.declared.err.ipv6.slice_error.SliceError.TheVariants.{Len, Header, Exts}

abbrev pub of_header_fault : HeaderSliceError HeaderFault → SliceError
of_header_fault (slice_error.Len e) = Len e
of_header_fault (slice_error.Content e) = Header e

-- an error of too few bytes after the header, in what this source bounds
abbrev pub of_exts_fault : LenSource → HeaderSliceError ExtsFault → SliceError
of_exts_fault source (slice_error.Len e) = Len (record (offset_by e 40) { len_source = source })
of_exts_fault source (slice_error.Content e) = Exts e

-- fewer bytes follow the header than its payload length says
pub record IsCutOff (bytes header : List ℕ) (e : SliceError) : Type 0 where
  pub size : length bytes - 40 < body_len header (length bytes - 40)
  pub error : e ≡ Len (too_few_bytes layer.Ipv6Packet (40 + payload_length_of header) (length bytes))

-- the row of extension headers within the payload length, under this order, ends at a fault
pub record IsRowFault (order : Order) (bytes header : List ℕ) (e : SliceError) : Type 0 where
  pub pieces : List Piece
  pub last : ℕ
  pub rest : List ℕ
  pub fault : Fault
  pub size : body_len header (length bytes - 40) ≤ length bytes - 40
  pub chain : Chain order (next_header_of header)
      (take (body_len header (length bytes - 40)) (drop 40 bytes)) pieces last rest
  pub found : fault_of order pieces last rest ≡ Some fault
  pub error : e ≡ of_exts_fault (body_source header (length bytes - 40)) fault.0

-- the first fault of a header and of its payload length
pub data IsPrefixFault (bytes : List ℕ) (e : SliceError) : Type 0 where
  InHeader : (fault : HeaderSliceError HeaderFault) → header_at bytes ≡ Err fault
      → e ≡ of_header_fault fault → IsPrefixFault bytes e
  InLength : (header : List ℕ) → header_at bytes ≡ Ok header
      → IsCutOff bytes header e → IsPrefixFault bytes e

-- the first fault of the bytes, where extension headers come in this order: of the header, then of
-- its payload length, then of the extension headers
pub data IsFaultIn (order : Order) (bytes : List ℕ) (e : SliceError) : Type 0 where
  OfHeader : (fault : HeaderSliceError HeaderFault) → header_at bytes ≡ Err fault
      → e ≡ of_header_fault fault → IsFaultIn order bytes e
  OfLength : (header : List ℕ) → header_at bytes ≡ Ok header → IsCutOff bytes header e
      → IsFaultIn order bytes e
  OfExtensions : (header : List ℕ) → header_at bytes ≡ Ok header → IsRowFault order bytes header e
      → IsFaultIn order bytes e

-- the first fault of the bytes as a view reads them
abbrev pub IsIpv6Fault : List ℕ → SliceError → Type 0
IsIpv6Fault bytes e = IsFaultIn view_order bytes e
