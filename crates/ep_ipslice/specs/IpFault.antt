-- Faults of IP headers of either version, seen from a slice that starts earlier.
use Rattle.std.specs.Prelude.{ℕ, ⊤}
use Rattle.ep_base.specs.LenError as len
use Rattle.ep_ipslice.specs.declared.err.ip.headers_slice_error.HeadersSliceError.{HeadersSliceError}
use Rattle.ep_ipslice.specs.declared.err.ip.headers_slice_error.HeadersSliceError.TheVariants.{Len, Content}
use Rattle.ep_ipslice.specs.declared.err.ip.slice_error.SliceError.{SliceError}
use Rattle.ep_ipslice.specs.declared.err.ip.slice_error.SliceError.TheVariants as packet

-- the offset fits a `usize`
abbrev pub CanMove : HeadersSliceError → ℕ → Type 0
CanMove (Len e) n = len.CanMove e n
CanMove (Content e) n = ⊤

-- an error of too few bytes is further on, and a fault of the content is the same
abbrev pub offset_by : HeadersSliceError → ℕ → HeadersSliceError
offset_by (Len e) n = Len (len.offset_by e n)
offset_by (Content e) n = Content e

-- a fault of a packet, as one of its headers
abbrev pub headers_fault : SliceError → HeadersSliceError
headers_fault (packet.Len e) = Len e
headers_fault (packet.IpHeaders e) = Content e
