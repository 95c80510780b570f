-- The result of a call that stops at a fault of the authentication header after an IPv4 header.
use Rattle.std.specs.Prelude.{◌≡◌, ℕ, List, ◌++◌, Option, Some, None, Err}
use Rattle.ep_base.specs.declared.net.ip_number.IpNumber.{IpNumber}
use Rattle.ep_ext.specs.Ipv4Exts.{IsAuthAfter, auth_after, auth_bytes, number_after}
use Rattle.ep_base.specs.declared.err.slice_error.SliceError.{SliceError}
use Rattle.ep_ext.specs.declared.err.ip_auth.header_error.HeaderError.{HeaderError}

-- the header, if the number names one, with the number and the bytes after it; or number and bytes
-- as they were passed, and the fault
abbrev pub IsLaxAnswer : IpNumber → List ℕ → Option (List ℕ) → IpNumber → List ℕ
    → Option (SliceError HeaderError) → Type 0
IsLaxAnswer first bytes auth number rest None =
    IsAuthAfter first.0 auth × (bytes ≡ auth_bytes auth ++ rest)
    × (number.0 ≡ number_after first.0 auth)
IsLaxAnswer first bytes auth number rest (Some e) =
    (auth ≡ None) × (number ≡ first) × (rest ≡ bytes) × (auth_after first.0 bytes ≡ Err e)
