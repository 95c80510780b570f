-- The extension headers of an IPv4 packet: an authentication header where the protocol number is 51, and
-- else none (RFC 4302, section 3.1.1).
use Rattle.std.specs.Prelude.{◌≡◌, ◌≢◌, ℕ, ◌==◌, if◌then◌else◌, List, [], ◌++◌, unwrap_or, is_some, ◌&&◌, not, Option}
use Rattle.std.specs.Prelude.{Some, None, Result, Ok, Err}
use Rattle.std.specs.Option.{option_map}
use Rattle.std.specs.Result.{result_map_both}
use Rattle.ep_base.specs.Bytes.{num}
use Rattle.ep_base.specs.declared.net.ip_number.IpNumber.{IpNumber}
use Rattle.ep_ext.specs.Auth.{IsAuth, auth_at, auth_of, auth_encoding}
use Rattle.ep_base.specs.declared.err.slice_error.SliceError.{SliceError}
use Rattle.ep_ext.specs.declared.err.ip_auth.header_error.HeaderError.{HeaderError}
use Rattle.ep_ext.specs.declared.err.ipv4_exts.exts_walk_error.ExtsWalkError.{ExtsWalkError}
use Rattle.ep_ext.specs.declared.err.ipv4_exts.exts_walk_error.ExtsWalkError.TheVariants.{ExtNotReferenced}
use Rattle.ep_ext.specs.declared.err.ipv4_exts.header_write_error.HeaderWriteError.{HeaderWriteError}
use Rattle.ep_ext.specs.declared.err.ipv4_exts.header_write_error.HeaderWriteError.TheVariants.{Memory, Content}
use Rattle.ep_ext.specs.declared.net.ip_auth_header.IpAuthHeader.{IpAuthHeader}
use Rattle.ep_ext.specs.declared.net.ipv4_extensions.Ipv4Extensions.{Ipv4Extensions}

-- the protocol number of the authentication header
abbrev pub auth_number : ℕ
auth_number = 51

-- after a number there is an authentication header where it names one, and none where it doesn't
abbrev pub IsAuthAfter : ℕ → Option (List ℕ) → Type 0
IsAuthAfter number None = number ≢ auth_number
IsAuthAfter number (Some auth) = (number ≡ auth_number) × IsAuth auth

-- the bytes of an authentication header, if there is one
abbrev pub auth_bytes : Option (List ℕ) → List ℕ
auth_bytes None = []
auth_bytes (Some auth) = auth

-- the number after it, where this one came before it
abbrev pub number_after : ℕ → Option (List ℕ) → ℕ
number_after number None = number
number_after number (Some auth) = num auth 0 1

-- the authentication header of this number at the start of the bytes, if it names one, or the fault
abbrev pub auth_after : ℕ → List ℕ → Result (Option (List ℕ)) (SliceError HeaderError)
auth_after number bytes =
    if number == auth_number then result_map_both Some (λ e. e) (auth_at bytes) else Ok None

-- the bytes are the extension headers after a number, and a rest
pub record Ipv4Chain (number : ℕ) (bytes : List ℕ) (auth : Option (List ℕ))
    (rest : List ℕ) : Type 0 where
  pub named : IsAuthAfter number auth
  pub cut : bytes ≡ auth_bytes auth ++ rest

-- the value of the header, if there is one
abbrev pub ipv4_exts_of : Option (List ℕ) → Ipv4Extensions
ipv4_exts_of auth = record { auth = option_map auth_of auth }

-- the bytes of a value
abbrev pub ipv4_exts_encoding : Ipv4Extensions → List ℕ
ipv4_exts_encoding value = unwrap_or (option_map auth_encoding value.auth) []

-- a header that the first number doesn't name
abbrev pub ipv4_walk_fault : Ipv4Extensions → ℕ → Option ExtsWalkError
ipv4_walk_fault value first =
    if is_some value.auth && not (first == auth_number)
    then Some (ExtNotReferenced (record { 0 = auth_number })) else None

-- the number after the value where it is named, and else the fault
abbrev pub NamesAfter : Ipv4Extensions → ℕ → Result IpNumber ExtsWalkError → Type 0
NamesAfter value first (Ok number) =
    (number.0 ≡ unwrap_or (option_map {T = IpAuthHeader} (λ h. h.next_header.0) value.auth) first)
    × (ipv4_walk_fault value first ≡ None)
NamesAfter value first (Err e) = ipv4_walk_fault value first ≡ Some e

-- the bytes are appended where the value is named, and else the buffer keeps its bytes
abbrev pub AppendsNamed : Ipv4Extensions → ℕ → List ℕ → List ℕ
    → Result Unit HeaderWriteError → Type 0
AppendsNamed value first old new (Ok u) =
    (new ≡ old ++ ipv4_exts_encoding value) × (ipv4_walk_fault value first ≡ None)
AppendsNamed value first old new (Err Memory) = (new ≡ old) × (ipv4_walk_fault value first ≡ None)
AppendsNamed value first old new (Err (Content e)) = (new ≡ old)
    × (ipv4_walk_fault value first ≡ Some e)

-- the value whose header names this number
abbrev pub ipv4_with_link : Ipv4Extensions → ℕ → Ipv4Extensions
ipv4_with_link value last = record {
  auth = option_map {T = IpAuthHeader}
      (λ h. record h { next_header = record { 0 = last } }) value.auth;
}
