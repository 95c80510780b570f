-- The IPv4 packet at the start of bytes, or why there is none.
use Rattle.std.specs.Prelude.{ℕ, nat_lt, if◌then◌else◌, List, length, take, drop, Result, Ok, Err}
use Rattle.std.specs.Result.{result_map_both}
use Rattle.ep_base.specs.LenError.{offset_by, too_few_bytes}
use Rattle.ep_base.specs.declared.err.layer.Layer.TheVariants as layer
use Rattle.ep_base.specs.declared.len_source.LenSource.TheVariants.{Ipv4HeaderTotalLen}
use Rattle.ep_ip.specs.Ipv4.{protocol_of, total_len_of}
use Rattle.ep_ip.specs.Ipv4Fault.{header_at}
use Rattle.ep_base.specs.declared.err.slice_error.SliceError.{SliceError as HeaderSliceError}
use Rattle.ep_base.specs.declared.err.slice_error.SliceError.TheVariants as slice_error
use Rattle.ep_ip.specs.declared.err.ipv4.header_error.HeaderError.{HeaderError as HeaderFault}
use Rattle.ep_ext.specs.declared.err.ip_auth.header_error.HeaderError.{HeaderError as AuthFault}
use Rattle.ep_ext.specs.Ipv4Exts.{auth_after, auth_bytes}
use Rattle.ep_ipslice.specs.Packet.{Ipv4Packet}
use Rattle.ep_ipslice.specs.declared.err.ipv4.slice_error.SliceError.{SliceError}
use Rattle.ep_ipslice.specs.declared.err.ipv4.slice_error.SliceError.TheVariants.{Len, Header, Exts}

abbrev pub of_header_fault : HeaderSliceError HeaderFault → SliceError
of_header_fault (slice_error.Len e) = Len e
of_header_fault (slice_error.Content e) = Header e

-- a fault n bytes after the start, in what the total length bounds
abbrev pub of_auth_fault : ℕ → HeaderSliceError AuthFault → SliceError
of_auth_fault n (slice_error.Len e) =
    Len (record (offset_by e n) { len_source = Ipv4HeaderTotalLen })
of_auth_fault n (slice_error.Content e) = Exts e

-- the bytes after the header that its total length bounds
abbrev pub body_of : List ℕ → List ℕ → List ℕ
body_of header bytes = drop (length header) (take (total_len_of header) bytes)

abbrev pub packet_with : List ℕ → Result (List ℕ) (HeaderSliceError HeaderFault)
    → Result Ipv4Packet SliceError
packet_with bytes (Err e) = Err (of_header_fault e)
packet_with bytes (Ok header) =
    if nat_lt (total_len_of header) (length header)
    then Err (Len (record (too_few_bytes layer.Ipv4Packet (length header) (total_len_of header))
    { len_source = Ipv4HeaderTotalLen })) else (
    if nat_lt (length bytes) (total_len_of header)
    then Err (Len (too_few_bytes layer.Ipv4Packet (total_len_of header) (length bytes))) else
    result_map_both (λ auth. record {
      header = header;
      auth = auth;
      payload = drop (length (auth_bytes auth)) (body_of header bytes);
    }) (of_auth_fault (length header)) (auth_after (protocol_of header) (body_of header bytes)))

-- the packet at the start of the bytes, or the first fault
abbrev pub ipv4_packet_at : List ℕ → Result Ipv4Packet SliceError
ipv4_packet_at bytes = packet_with bytes (header_at bytes)
