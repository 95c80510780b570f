-- Why a packet is refused, and at which offset: the faults of each layer as those of all layers.
use Rattle.std.specs.Prelude.{ℕ, ◌+◌, ◌<◌, ◌^◌, Result, Ok, Err}
use Rattle.ep_base.specs.LenError as len_error
use Rattle.ep_base.specs.declared.len_source.LenSource.{LenSource}
use Rattle.ep_base.specs.declared.len_source.LenSource.TheVariants as source
use Rattle.ep_ipslice.specs.declared.err.ip.headers_error.HeadersError.TheVariants as headers
use Rattle.ep_ipslice.specs.declared.err.ip.slice_error.SliceError.{SliceError as IpFault}
use Rattle.ep_ipslice.specs.declared.err.ip.slice_error.SliceError.TheVariants as ip
use Rattle.ep_ipslice.specs.declared.err.ipv4.slice_error.SliceError.{SliceError as Ipv4Fault}
use Rattle.ep_ipslice.specs.declared.err.ipv4.slice_error.SliceError.TheVariants as ipv4
use Rattle.ep_ipslice.specs.declared.err.ipv6.slice_error.SliceError.{SliceError as Ipv6Fault}
use Rattle.ep_ipslice.specs.declared.err.ipv6.slice_error.SliceError.TheVariants as ipv6
use Rattle.ep_base.specs.declared.err.slice_error.SliceError.{SliceError as HeaderSliceError}
use Rattle.ep_base.specs.declared.err.slice_error.SliceError.TheVariants as slice_error
use Rattle.ep_link.specs.declared.err.linux_sll.header_error.HeaderError.{HeaderError as SllFault}
use Rattle.ep_packet.specs.declared.err.packet.slice_error.SliceError.{SliceError}
use Rattle.ep_packet.specs.declared.err.packet.slice_error.SliceError.TheVariants.{Len, LinuxSll, Macsec, Ip, Ipv4}
use Rattle.ep_packet.specs.declared.err.packet.slice_error.SliceError.TheVariants.{Ipv6, Ipv4Exts, Ipv6Exts, Tcp}
use Rattle.ep_tag.specs.declared.err.macsec.header_error.HeaderError.{HeaderError as MacsecFault}

abbrev pub of_linux_sll : HeaderSliceError SllFault → SliceError
of_linux_sll (slice_error.Len e) = Len e
of_linux_sll (slice_error.Content e) = LinuxSll e

abbrev pub of_macsec : HeaderSliceError MacsecFault → SliceError
of_macsec (slice_error.Len e) = Len e
of_macsec (slice_error.Content e) = Macsec e

abbrev pub of_ipv4 : Ipv4Fault → SliceError
of_ipv4 (ipv4.Len e) = Len e
of_ipv4 (ipv4.Header e) = Ipv4 e
of_ipv4 (ipv4.Exts e) = Ipv4Exts e

abbrev pub of_ipv6 : Ipv6Fault → SliceError
of_ipv6 (ipv6.Len e) = Len e
of_ipv6 (ipv6.Header e) = Ipv6 e
of_ipv6 (ipv6.Exts e) = Ipv6Exts e

abbrev pub of_ip : IpFault → SliceError
of_ip (ip.Len e) = Len e
of_ip (ip.IpHeaders (headers.Ip e)) = Ip e
of_ip (ip.IpHeaders (headers.Ipv4Ext e)) = Ipv4Exts e
of_ip (ip.IpHeaders (headers.Ipv6Ext e)) = Ipv6Exts e

-- the offset of the layer that has too few bytes; a fault of the content has none, here 0
abbrev pub fault_offset : SliceError → ℕ
fault_offset (Len e) = e.layer_start_offset
fault_offset (LinuxSll e) = 0
fault_offset (Macsec e) = 0
fault_offset (Ip e) = 0
fault_offset (Ipv4 e) = 0
fault_offset (Ipv6 e) = 0
fault_offset (Ipv4Exts e) = 0
fault_offset (Ipv6Exts e) = 0
fault_offset (Tcp e) = 0

-- the offset n bytes later fits a `usize`
abbrev pub CanMove : SliceError → ℕ → Type 0
CanMove e n = fault_offset e + n < 2 ^ 64

-- counted from n bytes earlier, the offset of a layer with too few bytes is n greater, and a fault
-- of the content is the same
abbrev pub offset_by : ℕ → SliceError → SliceError
offset_by n (Len e) = Len (len_error.offset_by e n)
offset_by n (LinuxSll e) = LinuxSll e
offset_by n (Macsec e) = Macsec e
offset_by n (Ip e) = Ip e
offset_by n (Ipv4 e) = Ipv4 e
offset_by n (Ipv6 e) = Ipv6 e
offset_by n (Ipv4Exts e) = Ipv4Exts e
offset_by n (Ipv6Exts e) = Ipv6Exts e
offset_by n (Tcp e) = Tcp e

-- the result of reading n bytes later
abbrev pub later : {A : Type 0} → ℕ → Result A SliceError → Result A SliceError
later n (Ok x) = Ok x
later n (Err e) = Err (offset_by n e)

-- what bounds an IP payload bounds what is in it, unless an inner length does
abbrev pub bounded_by : LenSource → LenSource → LenSource
bounded_by outer source.Slice = outer
bounded_by outer own = own

-- a fault in an IP payload that this length bounds
abbrev pub within : LenSource → SliceError → SliceError
within outer (Len e) = Len (record e { len_source = bounded_by outer e.len_source })
within outer (LinuxSll e) = LinuxSll e
within outer (Macsec e) = Macsec e
within outer (Ip e) = Ip e
within outer (Ipv4 e) = Ipv4 e
within outer (Ipv6 e) = Ipv6 e
within outer (Ipv4Exts e) = Ipv4Exts e
within outer (Ipv6Exts e) = Ipv6Exts e
within outer (Tcp e) = Tcp e
