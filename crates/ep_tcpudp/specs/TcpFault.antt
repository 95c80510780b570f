-- Why bytes start with no TCP header (RFC 9293, section 3.1).
use Rattle.std.specs.Prelude.{ℕ, ◌*◌, List, length, nat_lt, Result, Ok, Err, ◌∷◌, []}
use Rattle.ep_base.specs.LenError.{too_few_bytes}
use Rattle.ep_base.specs.Refusals.{unless_refused}
use Rattle.ep_base.specs.declared.err.layer.Layer.TheVariants.{TcpHeader}
use Rattle.ep_tcpudp.specs.declared.err.tcp.header_error.HeaderError.TheVariants.{DataOffsetTooSmall}
use Rattle.ep_base.specs.declared.err.slice_error.SliceError.{SliceError}
use Rattle.ep_base.specs.declared.err.slice_error.SliceError.TheVariants.{Len, Content}
use Rattle.ep_tcpudp.specs.declared.err.tcp.header_error.HeaderError.{HeaderError}
use Rattle.ep_tcpudp.specs.Tcp.{data_offset_of, header_bytes}

-- all the bytes where they start with a header, or the first fault
abbrev pub segment_at : List ℕ → Result (List ℕ) (SliceError HeaderError)
segment_at bytes = unless_refused (
    (nat_lt (length bytes) 20, Len (too_few_bytes TcpHeader 20 (length bytes)))
    ∷ (nat_lt (data_offset_of bytes) 5, Content (DataOffsetTooSmall (data_offset_of bytes)))
    ∷ (
      nat_lt (length bytes) (4 * data_offset_of bytes),
      Len (too_few_bytes TcpHeader (4 * data_offset_of bytes) (length bytes)),
    )
    ∷ []) bytes

-- the header of a segment, or the same fault
abbrev pub header_of_segment : Result (List ℕ) (SliceError HeaderError)
    → Result (List ℕ) (SliceError HeaderError)
header_of_segment (Ok segment) = Ok (header_bytes segment)
header_of_segment (Err fault) = Err fault

-- the header at the start of the bytes, or the first fault
abbrev pub header_at : List ℕ → Result (List ℕ) (SliceError HeaderError)
header_at bytes = header_of_segment (segment_at bytes)
