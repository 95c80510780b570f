-- Tags of which the first bytes are there.
use Rattle.std.proofs.Common.{◌≡◌, ◌∙◌, sym, ap, refl, ℕ, ◌-◌, ◌≤◌, ◌<◌, ◌==◌, Bool, true, false, List, [], ◌++◌, length, take}
use Rattle.std.proofs.Common.{drop, Ok, arith, append-nil, append_assoc, length-append}
use Rattle.std.specs.Prelude.{if◌then◌else◌, nat_lt}
use Rattle.std.specs.Option.{option_map}
use Rattle.std.proofs.lemmas.Bool.Decides.{nat_tests}
use Rattle.std.proofs.lemmas.List.{drop_at, get_or-take, length-take, take-append-le}
use Rattle.ep_base.proofs.FirstBytes.{drop_in, payload_prefix, take_after}
use Rattle.ep_base.specs.declared.err.layer.Layer.TheVariants.{VlanHeader}
use Rattle.ep_base.specs.declared.len_source.LenSource.TheVariants.{Slice}
use Rattle.ep_tag.specs.CutTags.{cut_macsec, cut_macsec_payload, cut_named, cut_tag, named_bytes}
use Rattle.ep_tag.specs.LinkExt.{fields_of, lax_fields_of, lax_payload_after, payload_after, tag_len}
use Rattle.ep_tag.specs.Macsec.{is_unmodified, short_len_of}
use Rattle.ep_tag.specs.MacsecFault.{header_at}
use Rattle.ep_tag.specs.MacsecLax.{lax_macsec_at, lax_named_payload, lax_macsec_with, lax_payload_under}
use Rattle.ep_tag.specs.MacsecPayload.{Macsec, MacsecPayload, bytes_under, macsec_at, named_payload, payload_len_of}
use Rattle.ep_tag.specs.MacsecPayload.{payload_under, source_of}
use Rattle.ep_tag.specs.Prefix.{whole_at}
use Rattle.ep_tag.specs.Vlan.{vlan_len}
use Rattle.ep_tag.specs.declared.link.link_ext_slice.LinkExtSlice.{LinkExtSlice}
use Rattle.ep_tag.specs.declared.link.link_ext_slice.LinkExtSlice.TheVariants as tag
use Rattle.ep_tag.proofs.MacsecPrefix.{header_again}
use Rattle.ep_tag.proofs.MacsecRead.{macsec_takes}

short_of : (n : ℕ) (payload beyond : List ℕ)
    → nat_lt (length (take n (payload ++ beyond))) (length payload) ≡ nat_lt n (length payload)
short_of n payload beyond = grind (arith, nat_tests, length-take, length-append)

-- a payload under a header, cut
under_cut : (plain incomplete : Bool) (n : ℕ) (header payload : List ℕ) → is_unmodified header ≡ plain
    → lax_payload_under header incomplete (if incomplete then Slice else source_of header) (take n payload)
    ≡ cut_macsec_payload n incomplete (payload_under header payload)
under_cut true incomplete n header payload kind = rw kind refl
under_cut false incomplete n header payload kind = rw kind refl

-- all of the payload's bytes that are there
all_there : (n : ℕ) (header payload rest : List ℕ) → nat_lt (length rest) (payload_len_of header) ≡ false
    → nat_lt n (payload_len_of header) ≡ false → bytes_under header rest ≡ take n payload
    → (lax_macsec_with header rest).payload
    ≡ cut_macsec_payload n (nat_lt n (payload_len_of header)) (payload_under header payload)
all_there n header payload rest test short bytes =
    ap (λ (b : Bool). if b then lax_payload_under header true Slice rest
    else lax_payload_under header false (source_of header) (bytes_under header rest)) test
    ∙ ap (lax_payload_under header false (source_of header)) bytes
    ∙ under_cut (is_unmodified header) false n header payload refl
    ∙ ap (λ (b : Bool). cut_macsec_payload n b (payload_under header payload)) (sym short)

-- what the short length leaves, and what is there of it
by_short : (short : Bool) (n : ℕ) (header payload beyond : List ℕ) → (short_len_of header == 0) ≡ false
    → length payload ≡ payload_len_of header → nat_lt n (payload_len_of header) ≡ short
    → (lax_macsec_with header (take n (payload ++ beyond))).payload
    ≡ cut_macsec_payload n (nat_lt n (payload_len_of header)) (payload_under header payload)
by_short true n header payload beyond given sized short =
    let there : take n (payload ++ beyond) ≡ take n payload =
    take-append-le n payload beyond (grind (arith, nat_tests)) in
    let test : nat_lt (length (take n payload)) (payload_len_of header) ≡ true =
    grind (arith, nat_tests, length-take) in
    rw (there, test, short) (under_cut (is_unmodified header) true n header payload refl)
by_short false n header payload beyond given sized short =
    let there : take (payload_len_of header) (take n (payload ++ beyond)) ≡ take n payload =
    rw (← sized) (payload_prefix n payload beyond) in
    let same : nat_lt n (length payload) ≡ false = rw sized short in
    let test : nat_lt (length (take n (payload ++ beyond))) (payload_len_of header) ≡ false =
    rw (← sized) (short_of n payload beyond ∙ same) in
    let bytes : bytes_under header (take n (payload ++ beyond)) ≡ take n payload =
    rw (given, there) refl in
    all_there n header payload (take n (payload ++ beyond)) test short bytes

payload_cut : (none : Bool) (n : ℕ) (header payload beyond : List ℕ) → (short_len_of header == 0) ≡ none
    → (short_len_of header ≡ 0 → beyond ≡ [])
    → (0 < short_len_of header → length payload ≡ payload_len_of header)
    → (lax_macsec_with header (take n (payload ++ beyond))).payload
    ≡ cut_macsec_payload n (nat_lt n (payload_len_of header)) (payload_under header payload)
payload_cut true n header payload beyond zero_is all size =
    let nothing : beyond ≡ [] = grind (arith, nat_tests) in
    let none_left : payload_len_of header ≡ 0 = grind (arith, nat_tests) in
    let test : nat_lt (length (take n (payload ++ beyond))) (payload_len_of header) ≡ false =
    grind (arith, nat_tests) in
    let short : nat_lt n (payload_len_of header) ≡ false = grind (arith, nat_tests) in
    let bytes : bytes_under header (take n (payload ++ beyond)) ≡ take n payload =
    rw (zero_is, nothing, append-nil payload) refl in
    all_there n header payload (take n (payload ++ beyond)) test short bytes
payload_cut false n header payload beyond given all size =
    let sized : length payload ≡ payload_len_of header = grind (arith, nat_tests) in
    by_short (nat_lt n (payload_len_of header)) n header payload beyond given sized refl

pub macsec_cut : (n : ℕ) (bytes : List ℕ) (m : Macsec) → macsec_at bytes ≡ Ok m → length m.header ≤ n
    → lax_macsec_at (take n bytes) ≡ Ok (cut_macsec n m)
macsec_cut n bytes m at fits =
    let is = macsec_takes bytes m at in
    let header = m.header in
    let left : ℕ = n - length header in
    let there : List ℕ = take left (is.payload ++ is.beyond) in
    let parts = is.parts ∙ append_assoc header is.payload is.beyond in
    let cut : take n bytes ≡ header ++ there = grind (arith, take_after) in
    let header_is : header_at (take n bytes) ≡ Ok header = rw cut (header_again header there is.is-header) in
    let rest : drop (length header) (take n bytes) ≡ there = rw cut (drop_at header there (length header) refl) in
    let payload = payload_cut (short_len_of header == 0) left header is.payload is.beyond refl is.all is.size
    ∙ ap (cut_macsec_payload left (nat_lt left (payload_len_of header))) (sym is.kind) in
    rw (header_is, rest) (λ i. Ok (record { header = header; payload = payload i }))

pub vlan_cut : (n : ℕ) (bytes tag : List ℕ) → whole_at VlanHeader vlan_len bytes ≡ Ok tag → 4 ≤ n
    → whole_at VlanHeader vlan_len (take n bytes) ≡ Ok (take n tag)
vlan_cut n bytes tag at fits = grind (arith, nat_tests, length-take)

-- the fields stand in the bytes of the tag
pub fields_cut : (n : ℕ) (t : LinkExtSlice) → tag_len t ≤ n → lax_fields_of (cut_tag n t) ≡ fields_of t
fields_cut n (tag.Vlan bytes) fits =
    let b0 = get_or-take n bytes 0 0 (omega (arith, fits)) in
    let b1 = get_or-take n bytes 1 0 (omega (arith, fits)) in
    let b2 = get_or-take n bytes 2 0 (omega (arith, fits)) in
    let b3 = get_or-take n bytes 3 0 (omega (arith, fits)) in
    rw (b0, b1, b2, b3) refl
fields_cut n (tag.Macsec m) fits = refl

-- what the tag names is the same, with the bytes that are there
named_macsec : (n : ℕ) (incomplete : Bool) (p : MacsecPayload)
    → option_map named_bytes (lax_named_payload (cut_macsec_payload n incomplete p))
    ≡ option_map (cut_named n) (named_payload p)
named_macsec n incomplete p = grind arith

pub named_cut : (n : ℕ) (t : LinkExtSlice) → tag_len t ≤ n
    → option_map named_bytes (lax_payload_after (cut_tag n t))
    ≡ option_map (cut_named (n - tag_len t)) (payload_after t)
named_cut n (tag.Vlan bytes) fits =
    let b2 = get_or-take n bytes 2 0 (omega (arith, fits)) in
    let b3 = get_or-take n bytes 3 0 (omega (arith, fits)) in
    rw (b2, b3, drop_in 4 n bytes fits) refl
named_cut n (tag.Macsec m) fits = named_macsec (n - length m.header) _ m.payload
