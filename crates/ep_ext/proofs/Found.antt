-- What is found at the start of some bytes is a whole header, and a whole header is found.
use Rattle.std.proofs.Common.{◌≡◌, ℕ, ◌≤◌, ◌+◌, ◌*◌, List, ◌++◌, length, take, drop, get_or, Result, Ok, arith, sym, ap}
use Rattle.std.proofs.Common.{◌∙◌, take-append-drop, refl, Option, Some, None, ◌==◌, Bool, true, false, Err}
use Rattle.std.proofs.lemmas.Bool.{ltb-false, eqb-false}
use Rattle.std.proofs.lemmas.List.{get_or-take, length-take-le}
use Rattle.std.specs.Result.{result_map_both}
use Rattle.std.specs.Prelude.{if◌then◌else◌}
use Rattle.std.proofs.lemmas.Bool.Decides.{nat_tests}
use Rattle.ep_base.proofs.Prefixes.{guard_ok, ok_same, takes}
use Rattle.ep_base.specs.Prefixes.{TakesPrefix}
use Rattle.ep_base.specs.declared.err.layer.Layer.{Layer}
use Rattle.ep_base.specs.declared.err.len_error.LenError.{LenError}
use Rattle.ep_ext.specs.Prefix.{prefix_at}
use Rattle.ep_ext.specs.Raw.{IsRawExt, raw_at, raw_len}
use Rattle.ep_ext.specs.Fragment.{IsFragment, fragment_at}
use Rattle.ep_ext.specs.Auth.{IsAuth, auth_at, auth_len}
use Rattle.ep_ext.specs.Ipv4Exts.{Ipv4Chain, auth_after}
use Rattle.ep_ext.specs.Chain.{IsPiece, prefix_of, of_auth}
use Rattle.ep_base.specs.declared.err.slice_error.SliceError.{SliceError}
use Rattle.ep_base.specs.declared.err.slice_error.SliceError.TheVariants.{Len}
use Rattle.ep_ext.specs.declared.err.ip_auth.header_error.HeaderError.{HeaderError as AuthError}
use Rattle.ep_ext.specs.declared.net.ipv6_ext_slot.Ipv6ExtSlot.{Ipv6ExtSlot}
use Rattle.ep_ext.specs.declared.net.ipv6_ext_slot.Ipv6ExtSlot.TheVariants.{HopByHop, Destination, Routing, Fragment}
use Rattle.ep_ext.specs.declared.net.ipv6_ext_slot.Ipv6ExtSlot.TheVariants.{Authentication, FinalDestination}
use Rattle.ep_ext.proofs.Prefixes.{raw_again, fragment_again, auth_again}
use Rattle.ep_ext.specs.declared.err.ipv6_exts.header_error.HeaderError.{HeaderError}

of_len_ok : (r : Result (List ℕ) LenError) (header : List ℕ) →
    ◌≡◌ {A = Result (List ℕ) (SliceError HeaderError)} (result_map_both (λ h. h) Len r) (Ok header)
    → r ≡ Ok header
of_len_ok r header h = grind arith

of_auth_ok : (r : Result (List ℕ) (SliceError AuthError)) (header : List ℕ)
    → of_auth r ≡ Ok header → r ≡ Ok header
of_auth_ok r header h = grind arith

-- the prefix of this size is the header
abbrev pub IsCut : List ℕ → ℕ → List ℕ → Type 0
IsCut bytes size header = (size ≤ length bytes) × (take size bytes ≡ header)

cut_found : (layer : Layer) (least size : ℕ) (bytes header : List ℕ)
    → prefix_at layer least size bytes ≡ Ok header → (least ≤ length bytes) × IsCut bytes size header
cut_found layer least size bytes header is = grind arith

-- the bytes are the header and what follows it
cut_parts : (bytes : List ℕ) (size : ℕ) (header : List ℕ) → IsCut bytes size header
    → bytes ≡ header ++ drop size bytes
cut_parts bytes size header cut = grind (arith, take-append-drop)

cut_len : (bytes : List ℕ) (size : ℕ) (header : List ℕ)
    → IsCut bytes size header → length header ≡ size
cut_len bytes size header cut = ap length (sym cut.1) ∙ length-take-le size bytes cut.0

cut_second : (bytes : List ℕ) (size : ℕ) (header : List ℕ) → IsCut bytes size header → 2 ≤ size
    → get_or header 1 0 ≡ get_or bytes 1 0
cut_second bytes size header cut two = grind (arith, get_or-take)

-- a whole header and what follows it
abbrev pub Begins : (List ℕ → Type 0) → List ℕ → List ℕ → Type 0
Begins Is bytes header = Is header × ((following : List ℕ) × (bytes ≡ header ++ following))

pub raw_begins : (bytes header : List ℕ) → raw_at bytes ≡ Ok header → Begins IsRawExt bytes header
raw_begins bytes header is =
    let cut : IsCut bytes (raw_len bytes) header = (cut_found _ _ _ _ _ is).1 in
    let len = cut_len bytes (raw_len bytes) header cut in
    let second = cut_second bytes (raw_len bytes) header cut (omega arith) in (
      grind arith,
      (drop (raw_len bytes) bytes, cut_parts bytes (raw_len bytes) header cut),
    )

pub fragment_begins : (bytes header : List ℕ) → fragment_at bytes ≡ Ok header
    → Begins IsFragment bytes header
fragment_begins bytes header is =
    let cut : IsCut bytes 8 header = (cut_found _ _ _ _ _ is).1 in
    (record { whole = cut_len bytes 8 header cut }, (drop 8 bytes, cut_parts bytes 8 header cut))

pub auth_begins : (bytes header : List ℕ) → auth_at bytes ≡ Ok header → Begins IsAuth bytes header
auth_begins bytes header is =
    let first = guard_ok _ _ _ _ is in
    let second = guard_ok _ _ _ _ first.1 in
    let third = guard_ok _ _ _ _ second.1 in
    let cut : IsCut bytes (auth_len bytes) header =
    (ltb-false (length bytes) (auth_len bytes) third.0, ok_same _ _ third.1) in
    let len = cut_len bytes (auth_len bytes) header cut in
    let some = eqb-false (get_or bytes 1 0) 0 second.0 in
    let next = cut_second bytes (auth_len bytes) header cut (omega arith) in (
      record {
        least = omega (arith, len, some);
        whole = len ∙ ap (λ (n : ℕ). (n + 2) * 4) (sym next);
      },
      (drop (auth_len bytes) bytes, cut_parts bytes (auth_len bytes) header cut),
    )

pub prefix_begins : (slot : Ipv6ExtSlot) (bytes header : List ℕ) → prefix_of slot bytes ≡ Ok header
    → Begins (IsPiece slot) bytes header
prefix_begins HopByHop bytes header is = raw_begins bytes header (of_len_ok _ header is)
prefix_begins Destination bytes header is = raw_begins bytes header (of_len_ok _ header is)
prefix_begins Routing bytes header is = raw_begins bytes header (of_len_ok _ header is)
prefix_begins Fragment bytes header is = fragment_begins bytes header (of_len_ok _ header is)
prefix_begins Authentication bytes header is = auth_begins bytes header (of_auth_ok _ header is)
prefix_begins FinalDestination bytes header is = raw_begins bytes header (of_len_ok _ header is)

-- what is taken is a header and a prefix of the bytes, and such a prefix is taken
pub raw_taken : (bytes : List ℕ) → TakesPrefix IsRawExt bytes (raw_at bytes)
raw_taken bytes = takes IsRawExt raw_at raw_begins raw_again bytes (raw_at bytes) refl

pub fragment_taken : (bytes : List ℕ) → TakesPrefix IsFragment bytes (fragment_at bytes)
fragment_taken bytes =
    takes IsFragment fragment_at fragment_begins fragment_again bytes (fragment_at bytes) refl

pub auth_taken : (bytes : List ℕ) → TakesPrefix IsAuth bytes (auth_at bytes)
auth_taken bytes = takes IsAuth auth_at auth_begins auth_again bytes (auth_at bytes) refl

auth_by : (named : Bool) (number : ℕ) (bytes : List ℕ) (auth : Option (List ℕ))
    (r : Result (List ℕ) (SliceError AuthError)) → (number == 51) ≡ named → auth_at bytes ≡ r
    → (if named then result_map_both Some (λ e. e) r else Ok None) ≡ Ok auth
    → (rest : List ℕ) × Ipv4Chain number bytes auth rest
auth_by true number bytes auth (Ok header) names at is =
    let begins = auth_begins bytes header at in (
      begins.1.0,
      record { named = grind (arith, nat_tests); cut = grind arith },
    )
auth_by true number bytes auth (Err e) names at is = cc
auth_by false number bytes auth r names at is =
    (bytes, record { named = grind (arith, nat_tests); cut = grind arith })

-- the authentication header after a number of IPv4, if it names one
pub auth_after_found : (number : ℕ) (bytes : List ℕ) (auth : Option (List ℕ))
    → auth_after number bytes ≡ Ok auth → (rest : List ℕ) × Ipv4Chain number bytes auth rest
auth_after_found number bytes auth is =
    auth_by (number == 51) number bytes auth (auth_at bytes) refl refl is

pub auth_after_again : (number : ℕ) (bytes : List ℕ) (auth : Option (List ℕ)) (rest : List ℕ)
    → Ipv4Chain number bytes auth rest → auth_after number bytes ≡ Ok auth
auth_after_again number bytes auth rest chain = grind (arith, auth_again)
