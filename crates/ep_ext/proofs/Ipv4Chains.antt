-- The extension headers of an IPv4 packet.
use Rattle.std.proofs.Common.{arith, ◌≡◌, ℕ, Bool, true, cond, not, List, ◌++◌, Option, Some, None, Result, Ok, Bor}
use Rattle.std.proofs.Common.{IsOkAnd, refl, sym, ap, ◌∙◌}
use Rattle.std.proofs.lemmas.Bool.{eqb-true}
use Rattle.ep_base.specs.declared.net.ip_number.IpNumber.{IpNumber}
use Rattle.ep_ext.specs.Auth.{IsAuth, auth_of, auth_encoding}
use Rattle.ep_ext.specs.Ipv4Exts.{Ipv4Chain, NamesAfter, ipv4_exts_of, ipv4_exts_encoding, number_after}
use Rattle.ep_ext.specs.ReadsIpv4Exts.{IsOfAuth}
use Rattle.ep_base.specs.declared.err.slice_error.SliceError.{SliceError}
use Rattle.ep_ext.specs.declared.err.ip_auth.header_error.HeaderError.{HeaderError}
use Rattle.ep_ext.specs.declared.err.ipv4_exts.exts_walk_error.ExtsWalkError.{ExtsWalkError}
use Rattle.ep_ext.specs.declared.net.ip_auth_header.IpAuthHeader.{IpAuthHeader}
use Rattle.ep_ext.specs.declared.net.ipv4_extensions.Ipv4Extensions.{Ipv4Extensions}
use Rattle.ep_ext.specs.declared.net.ipv6_ext_slot.Ipv6ExtSlot.TheVariants.{Authentication}
use Rattle.ep_ext.proofs.Prefixes.{same_prefix, same_rest}

abbrev pub Read : ℕ → List ℕ → IpAuthHeader → List ℕ → Type 0
Read first bytes value rest = (header : List ℕ) × IsAuth header × (bytes ≡ header ++ rest)
    × (value ≡ auth_of header)

pub read_found : (first : ℕ) (bytes rest : List ℕ) (value : IpAuthHeader) → first ≡ 51
    → Read first bytes value rest →
    (header : Option (List ℕ)) × Ipv4Chain first bytes header rest
    × ◌≡◌ {A = Ipv4Extensions} (record { auth = Some value }) (ipv4_exts_of header)
    × (value.next_header.0 ≡ number_after first header)
read_found first bytes rest value is read = (
  Some read.0,
  record { named = (is, read.1); cut = read.2 },
  cc read.3,
  rw read.3,
)

pub read_only : (first : ℕ) (bytes rest : List ℕ) (value : IpAuthHeader) → first ≡ 51
    → Read first bytes value rest →
    (header : Option (List ℕ)) (following : List ℕ) → Ipv4Chain first bytes header following →
    ◌≡◌ {A = Ipv4Extensions} (record { auth = Some value }) (ipv4_exts_of header)
    × (value.next_header.0 ≡ number_after first header) × (rest ≡ following)
read_only first bytes rest value is read None following chain = absurd (chain.named is)
read_only first bytes rest value is read (Some header) following chain =
    let same : read.0 ≡ header =
    same_prefix Authentication read.0 header rest following read.1 chain.named.1
    (sym read.2 ∙ chain.cut) in
    let value_is : value ≡ auth_of header = grind arith in grind (arith, same_rest)

abbrev Answer : Type 0
Answer = Ipv4Extensions × IpNumber × Bor (List ℕ)

abbrev Only : ℕ → List ℕ → Result Answer (SliceError HeaderError) → Type 0
Only first bytes answer = (header : Option (List ℕ)) (rest : List ℕ)
    → Ipv4Chain first bytes header rest →
    IsOkAnd answer (λ r. (r.0 ≡ ipv4_exts_of header)
    × (r.1.0 ≡ number_after first header) × (r.2.now ≡ rest))

given : (answer : Result Answer (SliceError HeaderError)) (v w : Ipv4Extensions) (m n : ℕ)
    (rest : List ℕ) → v ≡ w → m ≡ n →
    IsOkAnd answer (λ r. (r.0 ≡ v) × (r.1.0 ≡ m) × (r.2.now ≡ rest))
    → IsOkAnd answer (λ r. (r.0 ≡ w) × (r.1.0 ≡ n) × (r.2.now ≡ rest))
given answer v w m n rest e f is = grind arith

named_by : (b : Bool) (e : ExtsWalkError)
    → ◌≡◌ {A = Option ExtsWalkError} (cond (not b) (Some e) None) None → b ≡ true
named_by b e is = grind arith

by_header : (auth : Option IpAuthHeader) (first : ℕ) (bytes : List ℕ)
    (answer : Result Answer (SliceError HeaderError)) → Only first bytes answer →
    ((header : IpAuthHeader) → auth ≡ Some header
    → IsAuth (auth_encoding header) × (auth_of (auth_encoding header) ≡ header)) →
    (number : IpNumber) (rest : List ℕ) → NamesAfter (record { auth = auth }) first (Ok number)
    → (auth ≡ None → first ≡ 51 → ⊥) →
    bytes ≡ ipv4_exts_encoding (record { auth = auth }) ++ rest →
    IsOkAnd answer (λ r. (r.0 ≡ record { auth = auth }) × (r.1.0 ≡ number.0) × (r.2.now ≡ rest))
by_header None first bytes answer only whole number rest named unnamed cut =
    given answer _ _ _ _ rest refl (sym named.0)
    (only None rest (record { named = unnamed refl; cut = cut }))
by_header (Some header) first bytes answer only whole number rest named unnamed cut =
    let h = whole header refl in
    let is : first ≡ 51 = grind (arith, eqb-true, named_by) in
    given answer _ _ _ _ rest (ap (λ (x : IpAuthHeader). record { auth = Some x }) h.1)
    (sym named.0)
    (only (Some (auth_encoding header)) rest (record { named = (is, h.0); cut = cut }))

pub ipv4_reads_back : (value : Ipv4Extensions) (first : ℕ) (bytes : List ℕ)
    (answer : Result Answer (SliceError HeaderError)) → Only first bytes answer →
    ((header : IpAuthHeader) → value.auth ≡ Some header
    → IsAuth (auth_encoding header) × (auth_of (auth_encoding header) ≡ header)) →
    (number : IpNumber) (rest : List ℕ) → NamesAfter value first (Ok number)
    → (value.auth ≡ None → first ≡ 51 → ⊥) →
    bytes ≡ ipv4_exts_encoding value ++ rest
    → IsOkAnd answer (λ r. (r.0 ≡ value) × (r.1.0 ≡ number.0) × (r.2.now ≡ rest))
ipv4_reads_back value first bytes answer only whole number rest named unnamed cut =
    by_header value.auth first bytes answer only whole number rest named unnamed cut

-- the answer for a header that was read
pub answer_of : (first : ℕ) (bytes : List ℕ) (header : IpAuthHeader)
    (answer : Ipv4Extensions × IpNumber) → first ≡ 51 → IsAuth bytes
    → header ≡ auth_of bytes →
    ◌≡◌ {A = Ipv4Extensions × IpNumber} answer (record { auth = Some header }, header.next_header)
    → IsOfAuth first (Some bytes) answer
answer_of first bytes header answer is whole read gives = grind arith
