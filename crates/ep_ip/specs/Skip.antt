-- The walk over IPv6 extension headers (RFC 8200, section 4; RFC 6564, section 4; for the
-- authentication header RFC 4302, section 2.2).
use Rattle.std.specs.Prelude.{◌≡◌, ℕ, zero, suc, ◌+◌, ◌*◌, ◌<◌, ◌≤◌, Bool, IsTrue, ◌==◌, ◌&&◌, nat_lt, nat_le}
use Rattle.std.specs.Prelude.{if◌then◌else◌, List, [], ◌∷◌, ◌++◌, length, take, drop, Option, Some, None, Result, Ok}
use Rattle.std.specs.Prelude.{Err}
use Rattle.std.specs.List.{list_any, concat}
use Rattle.std.specs.Borrow.{Bor}
use Rattle.ep_base.specs.Bytes.{num}
use Rattle.ep_base.specs.LenError.{too_few_bytes}
use Rattle.ep_base.specs.declared.err.layer.Layer.TheVariants.{Ipv6ExtHeader}
use Rattle.ep_base.specs.declared.err.len_error.LenError.{LenError}
use Rattle.ep_base.specs.declared.net.ip_number.IpNumber.{IpNumber}

-- the numbers of the headers that are skipped: hop-by-hop options, routing, fragment,
-- authentication and destination options (RFC 8200), mobility (RFC 6275), host identity (RFC 7401),
-- shim6 (RFC 5533)
abbrev pub skipped_numbers : List ℕ
skipped_numbers = 0 ∷ 43 ∷ 44 ∷ 51 ∷ 60 ∷ 135 ∷ 139 ∷ 140 ∷ []

abbrev pub is_skipped : ℕ → Bool
is_skipped number = list_any (λ n. number == n) skipped_numbers

-- the length of the header of this number that begins the bytes: a fragment header has 8 bytes, the
-- second byte of an authentication header counts words of 4 bytes without the first two, that of
-- every other header words of 8 without the first
abbrev pub skipped_len : ℕ → List ℕ → ℕ
skipped_len number bytes =
    if number == 44 then 8 else (if number == 51 then (num bytes 1 1 + 2) * 4
    else (num bytes 1 1 + 1) * 8)

-- how many bytes are needed: two, to know the length, and then the header's length
abbrev pub required_len : ℕ → List ℕ → ℕ
required_len number bytes = if nat_lt (length bytes) 2 then 2 else skipped_len number bytes

-- the same of a header that is skipped
abbrev pub skipped_by : ℕ → List ℕ → Option ℕ
skipped_by number bytes =
    if is_skipped number then Some (required_len number bytes) else None

-- how the length of the header of this number is counted: 102 (f) as that of a fragment header, 97
-- (a) as that of an authentication header, 111 (o) as that of every other header, 46 (a dot) if it is
-- not skipped
abbrev pub length_kind : ℕ → ℕ
length_kind number = if number == 44 then 102 else (if number == 51 then 97
    else (if is_skipped number then 111 else 46))

-- how many bytes are needed of a header whose length is counted so
abbrev pub len_of_kind : ℕ → List ℕ → ℕ
len_of_kind kind bytes =
    if nat_lt (length bytes) 2 then 2 else (if kind == 111 then (num bytes 1 1 + 1) * 8
    else (if kind == 102 then 8 else (num bytes 1 1 + 2) * 4))

-- the bytes are one whole header of this number
pub record IsWhole (number : ℕ) (header : List ℕ) : Type 0 where
  pub started : 2 ≤ length header
  pub whole : length header ≡ skipped_len number header

-- headers in a row: the first has this number, each names the next by its first byte, and the last
-- one names the last number
abbrev pub Skips : ℕ → List (List ℕ) → ℕ → Type 0
Skips number [] last = number ≡ last
Skips number (header ∷ headers) last = IsTrue (is_skipped number) × IsWhole number header
    × Skips (num header 0 1) headers last

-- the bytes are headers in a row and a rest, and the rest begins with no whole header that is
-- skipped
pub record Walk (number : ℕ) (bytes : List ℕ) (headers : List (List ℕ)) (last : ℕ)
    (rest : List ℕ) : Type 0 where
  pub named : Skips number headers last
  pub cut : bytes ≡ concat headers ++ rest
  pub ended : IsTrue (is_skipped last) → length rest < required_len last rest

-- the header of this number at this offset is not whole
abbrev pub not_whole : ℕ → ℕ → List ℕ → LenError
not_whole offset number bytes =
    record (too_few_bytes Ipv6ExtHeader (required_len number bytes) (length bytes))
    { layer_start_offset = offset }

-- what the walk gives at its end, after so many bytes
abbrev pub outcome : ℕ → ℕ → List ℕ → Result (ℕ × List ℕ) LenError
outcome offset last rest = if is_skipped last then Err (not_whole offset last rest)
    else Ok (last, rest)

-- the headers in a row at the start of the bytes, at most so many
unfoldable pub headers_within : ℕ → ℕ → List ℕ → List (List ℕ)
headers_within zero number bytes = []
headers_within (suc most) number bytes =
    if is_skipped number && nat_le (required_len number bytes) (length bytes)
    then take (skipped_len number bytes) bytes ∷
    headers_within most (num bytes 0 1) (drop (skipped_len number bytes) bytes)
    else []

-- all of them: none is empty, so that they are no more than the bytes
abbrev pub skipped_headers : ℕ → List ℕ → List (List ℕ)
skipped_headers number bytes = headers_within (length bytes) number bytes

-- the number that headers in a row name after them
unfoldable pub next_number_after : ℕ → List (List ℕ) → ℕ
next_number_after number [] = number
next_number_after number (header ∷ headers) = next_number_after (num header 0 1) headers

-- the first number that is not skipped and what follows the headers, or the first header that
-- is not whole
abbrev pub skip : ℕ → List ℕ → Result (ℕ × List ℕ) LenError
skip number bytes =
    let headers = skipped_headers number bytes in
    let offset = length (concat headers) in
    outcome offset (next_number_after number headers) (drop offset bytes)

-- the result of a call, which borrows a section of the bytes
abbrev pub Gives : Result (ℕ × List ℕ) LenError → Result (IpNumber × Bor (List ℕ)) LenError → Type 0
Gives wanted (Ok r) = wanted ≡ Ok (r.0.0, r.1.now)
Gives wanted (Err e) = wanted ≡ Err e

-- what is returned after these headers, after one turn for each of them and one for the number at
-- which the walk ends
pub record Ends (headers : List (List ℕ)) (last : ℕ) (rest : List ℕ)
    (answer : Result (IpNumber × Bor (List ℕ)) LenError) (turns : ℕ) : Type 0 where
  pub gives : Gives (outcome (length (concat headers)) last rest) answer
  pub counted : turns ≡ length headers + 1
