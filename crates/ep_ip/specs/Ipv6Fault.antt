-- Why bytes do not begin with an IPv6 header (RFC 8200, section 3).
use Rattle.std.specs.Prelude.{ℕ, List, [], ◌∷◌, length, take, nat_lt, ◌==◌, not, Result}
use Rattle.ep_base.specs.LenError.{too_few_bytes}
use Rattle.ep_base.specs.Refusals.{unless_refused}
use Rattle.ep_base.specs.declared.err.layer.Layer.TheVariants.{Ipv6Header}
use Rattle.ep_ip.specs.declared.err.ipv6.header_error.HeaderError.TheVariants.{UnexpectedVersion}
use Rattle.ep_base.specs.declared.err.slice_error.SliceError.{SliceError}
use Rattle.ep_base.specs.declared.err.slice_error.SliceError.TheVariants.{Len, Content}
use Rattle.ep_ip.specs.declared.err.ipv6.header_error.HeaderError.{HeaderError}
use Rattle.ep_ip.specs.Ipv4.{version_of}

-- the header at the start of the bytes, or the first fault
abbrev pub header_at : List ℕ → Result (List ℕ) (SliceError HeaderError)
header_at bytes = unless_refused (
    (nat_lt (length bytes) 40, Len (too_few_bytes Ipv6Header 40 (length bytes)))
    ∷ (not (version_of bytes == 6), Content (UnexpectedVersion (version_of bytes))) ∷ [])
    (take 40 bytes)
