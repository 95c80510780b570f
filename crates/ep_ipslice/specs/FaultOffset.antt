-- The offset of the layer that has too few bytes in a packet; a fault of the content has no offset
-- and counts as 0.
use Rattle.std.specs.Prelude.{ℕ}
use Rattle.ep_ipslice.specs.declared.err.ip.slice_error.SliceError.{SliceError}
use Rattle.ep_ipslice.specs.declared.err.ip.slice_error.SliceError.TheVariants as ip
use Rattle.ep_ipslice.specs.declared.err.ipv4.slice_error.SliceError.{SliceError as Ipv4Fault}
use Rattle.ep_ipslice.specs.declared.err.ipv4.slice_error.SliceError.TheVariants as ipv4
use Rattle.ep_ipslice.specs.declared.err.ipv6.slice_error.SliceError.{SliceError as Ipv6Fault}
use Rattle.ep_ipslice.specs.declared.err.ipv6.slice_error.SliceError.TheVariants as ipv6

abbrev pub ipv4_offset : Ipv4Fault → ℕ
ipv4_offset (ipv4.Len e) = e.layer_start_offset
ipv4_offset (ipv4.Header e) = 0
ipv4_offset (ipv4.Exts e) = 0

abbrev pub ipv6_offset : Ipv6Fault → ℕ
ipv6_offset (ipv6.Len e) = e.layer_start_offset
ipv6_offset (ipv6.Header e) = 0
ipv6_offset (ipv6.Exts e) = 0

abbrev pub ip_offset : SliceError → ℕ
ip_offset (ip.Len e) = e.layer_start_offset
ip_offset (ip.IpHeaders e) = 0
