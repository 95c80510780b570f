-- Tags as far as they are there, where more bytes are there.
use Rattle.std.proofs.Common.{◌≡◌, ◌∙◌, sym, ap, refl, ℕ, ◌==◌, Bool, true, false, List, ◌++◌, length, drop, Result, Ok, Err}
use Rattle.std.proofs.Common.{IsOkAnd, arith, append_assoc}
use Rattle.std.specs.Prelude.{nat_lt}
use Rattle.std.proofs.lemmas.Bool.Decides.{nat_tests}
use Rattle.std.proofs.lemmas.List.{drop_at, take_all}
use Rattle.ep_base.proofs.FirstBytes.{take_continued}
use Rattle.ep_base.specs.Bytes.{IsContinued}
use Rattle.ep_base.specs.declared.err.slice_error.SliceError.{SliceError}
use Rattle.ep_base.specs.declared.len_source.LenSource.{LenSource}
use Rattle.ep_base.specs.declared.len_source.LenSource.TheVariants.{Slice}
use Rattle.ep_tag.specs.Macsec.{is_unmodified, short_len_of}
use Rattle.ep_tag.specs.MacsecFault.{header_at}
use Rattle.ep_tag.specs.MacsecLax.{LaxMacsec, lax_macsec_after, lax_macsec_at, lax_macsec_with, lax_payload_under}
use Rattle.ep_tag.specs.MacsecPayload.{bytes_under, payload_len_of, source_of}
use Rattle.ep_tag.specs.MoreTags.{KeepsMacsec, IsPayloadContinued}
use Rattle.ep_tag.specs.declared.err.macsec.header_error.HeaderError.{HeaderError}
use Rattle.ep_tag.proofs.MacsecPrefix.{header_again, header_found}

-- the payload is what there is of the bytes that the short length leaves
payload_case : (short : Bool) (header rest : List ℕ) → nat_lt (length rest) (payload_len_of header) ≡ short
    → (incomplete : Bool) × (source : LenSource) × ((lax_macsec_with header rest).payload
    ≡ lax_payload_under header incomplete source (bytes_under header rest))
payload_case true header rest short =
    let all : bytes_under header rest ≡ rest = grind (arith, nat_tests, take_all) in
    (true, Slice, rw (short, all) refl)
payload_case false header rest short =
    (false, source_of header, rw short refl)

bytes_more : (none : Bool) (header rest more : List ℕ) → (short_len_of header == 0) ≡ none
    → IsContinued (bytes_under header rest) (bytes_under header (rest ++ more))
bytes_more true header rest more none = rw none (more, refl)
bytes_more false header rest more given = rw given (take_continued (payload_len_of header) rest more)

under_more : (plain : Bool) (header bytes all : List ℕ) (incomplete later : Bool)
    (source after : LenSource) → is_unmodified header ≡ plain → IsContinued bytes all
    → IsPayloadContinued (lax_payload_under header incomplete source bytes)
    (lax_payload_under header later after all)
under_more true header bytes all incomplete later source after kind more = rw kind (refl, more)
under_more false header bytes all incomplete later source after kind more = rw kind more

with_more : (header rest more : List ℕ)
    → KeepsMacsec (lax_macsec_with header rest) (lax_macsec_with header (rest ++ more))
with_more header rest more =
    let before = payload_case (nat_lt (length rest) (payload_len_of header)) header rest refl in
    let after = payload_case (nat_lt (length (rest ++ more)) (payload_len_of header)) header (rest ++ more) refl in
    let kept = under_more (is_unmodified header) header (bytes_under header rest)
    (bytes_under header (rest ++ more)) before.0 after.0 before.1 after.1 refl
    (bytes_more (short_len_of header == 0) header rest more refl) in
    record { header = refl; payload = rw (before.2, after.2) kept }

macsec_case : (bytes more : List ℕ) (r : Result (List ℕ) (SliceError HeaderError)) (before : LaxMacsec)
    → header_at bytes ≡ r → lax_macsec_after bytes r ≡ Ok before
    → IsOkAnd (lax_macsec_at (bytes ++ more)) (λ after. KeepsMacsec before after)
macsec_case bytes more (Err e) before at is = cc
macsec_case bytes more (Ok header) before at is =
    let begins = header_found bytes header at in
    let rest : List ℕ = begins.1.0 in
    let left : drop (length header) bytes ≡ rest =
    ap (drop (length header)) begins.1.1 ∙ drop_at header rest (length header) refl in
    let same : lax_macsec_with header rest ≡ before =
    ap (lax_macsec_with header) (sym left) ∙ cc in
    let parts : bytes ++ more ≡ header ++ (rest ++ more) =
    ap (λ (xs : List ℕ). xs ++ more) begins.1.1 ∙ append_assoc header rest more in
    let again : header_at (bytes ++ more) ≡ Ok header = rw parts (header_again header (rest ++ more) begins.0) in
    let following : drop (length header) (bytes ++ more) ≡ rest ++ more =
    ap (drop (length header)) parts ∙ drop_at header (rest ++ more) (length header) refl in
    let kept : KeepsMacsec before (lax_macsec_with header (rest ++ more)) =
    rw same at (with_more header rest more) in
    rw (again, following) kept

pub macsec_more : (bytes more : List ℕ) (before : LaxMacsec) → lax_macsec_at bytes ≡ Ok before
    → IsOkAnd (lax_macsec_at (bytes ++ more)) (λ after. KeepsMacsec before after)
macsec_more bytes more before is = macsec_case bytes more (header_at bytes) before refl is
