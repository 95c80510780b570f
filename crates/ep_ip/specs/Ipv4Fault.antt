-- Why bytes do not begin with an IPv4 header (RFC 791, section 3.1), and its payload's length.
use Rattle.std.specs.Prelude.{◌≡◌, ◌<◌, ◌+◌, ◌∷◌, [], ℕ, ◌*◌, List, length, take, nat_lt, ◌==◌, not, Result, Ok, Err}
use Rattle.ep_base.specs.LenError.{too_few_bytes}
use Rattle.ep_base.specs.Refusals.{unless_refused}
use Rattle.ep_base.specs.declared.err.layer.Layer.TheVariants.{Ipv4Header, Ipv4Packet}
use Rattle.ep_base.specs.declared.err.len_error.LenError.{LenError}
use Rattle.ep_base.specs.declared.len_source.LenSource.TheVariants.{Ipv4HeaderTotalLen}
use Rattle.ep_ip.specs.declared.err.ipv4.header_error.HeaderError.TheVariants.{UnexpectedVersion}
use Rattle.ep_ip.specs.declared.err.ipv4.header_error.HeaderError.TheVariants.{HeaderLengthSmallerThanHeader}
use Rattle.ep_base.specs.declared.err.slice_error.SliceError.{SliceError}
use Rattle.ep_base.specs.declared.err.slice_error.SliceError.TheVariants.{Len, Content}
use Rattle.ep_ip.specs.declared.err.ipv4.header_error.HeaderError.{HeaderError}
use Rattle.ep_ip.specs.Ipv4.{version_of, ihl_of}

-- the header at the start of the bytes, or the first fault
abbrev pub header_at : List ℕ → Result (List ℕ) (SliceError HeaderError)
header_at bytes = unless_refused (
    (nat_lt (length bytes) 20, Len (too_few_bytes Ipv4Header 20 (length bytes)))
    ∷ (not (version_of bytes == 4), Content (UnexpectedVersion (version_of bytes)))
    ∷ (nat_lt (ihl_of bytes) 5, Content (HeaderLengthSmallerThanHeader (ihl_of bytes)))
    ∷ (
      nat_lt (length bytes) (4 * ihl_of bytes),
      Len (too_few_bytes Ipv4Header (4 * ihl_of bytes) (length bytes)),
    )
    ∷ []) (take (4 * ihl_of bytes) bytes)

-- `Ok` of the payload's length, which with the header's is the total length, or an error with both
abbrev pub IsPayloadLen : ℕ → ℕ → Result ℕ LenError → Type 0
IsPayloadLen header_len total_len (Ok n) = header_len + n ≡ total_len
IsPayloadLen header_len total_len (Err e) = (total_len < header_len)
    × (e ≡ record (too_few_bytes Ipv4Packet header_len total_len)
    { len_source = Ipv4HeaderTotalLen })
