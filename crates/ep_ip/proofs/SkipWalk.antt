-- The walk over IPv6 extension headers: headers in a row against the function that finds them.
use Rattle.std.proofs.Common.{◌≡◌, ℕ, zero, suc, ◌+◌, ◌*◌, ◌/◌, ◌<◌, ◌≤◌, ◌-◌, Bool, true, false, [], cond, eqb, ltb}
use Rattle.std.proofs.Common.{List, ◌∷◌, ◌++◌, length, take, drop, get_or, arith, refl, sym, ◌∙◌, subst, IsTrue, ◌&&◌}
use Rattle.std.proofs.Common.{leb, Result, Bor}
use Rattle.std.proofs.lemmas.Bool.{le-ltb, le-leb}
use Rattle.std.proofs.lemmas.List.{get_or-take, length-take-le, take-append-drop, take_at, take_rest, drop_at}
use Rattle.std.proofs.lemmas.List.{get_or_append_left, length-append, append_assoc, append-nil, length-drop}
use Rattle.std.specs.List.{concat}
use Rattle.ep_base.specs.declared.err.len_error.LenError.{LenError}
use Rattle.ep_base.specs.declared.net.ip_number.IpNumber.{IpNumber}
use Rattle.ep_ip.specs.Skip.{is_skipped, skipped_len, required_len, IsWhole, Skips, Walk, outcome, headers_within}
use Rattle.ep_ip.specs.Skip.{skipped_headers, next_number_after, skip, Gives, Ends}

-- with fewer bytes than two, two are needed
started_of : (len n : ℕ) → cond (ltb len 2) 2 n ≤ len → (2 ≤ len) × (cond (ltb len 2) 2 n ≡ n)
started_of len n h = grind arith

pub required_of : (number : ℕ) (bytes : List ℕ) → required_len number bytes ≤ length bytes
    → (2 ≤ length bytes) × (required_len number bytes ≡ skipped_len number bytes)
required_of number bytes h = started_of (length bytes) (skipped_len number bytes) h

least_eight : (fragment authentication : Bool) (n : ℕ)
    → 8 ≤ cond fragment 8 (cond authentication ((n + 2) * 4) ((n + 1) * 8))
least_eight fragment a n = grind arith

-- no header is shorter than eight bytes
pub eight_le : (number : ℕ) (bytes : List ℕ) → 8 ≤ skipped_len number bytes
eight_le number bytes = least_eight (eqb number 44) (eqb number 51) (get_or bytes 1 0)

-- the length is that of the second byte alone
same_len : (number : ℕ) (a b : List ℕ) → get_or a 1 0 ≡ get_or b 1 0
    → skipped_len number a ≡ skipped_len number b
same_len number a b e = grind arith

-- a prefix that is long enough is a whole header
pub whole_prefix : (number : ℕ) (bytes : List ℕ) → required_len number bytes ≤ length bytes
    → IsWhole number (take (skipped_len number bytes) bytes)
whole_prefix number bytes h =
    grind (arith, required_of, eight_le, length-take-le, get_or-take, same_len)

-- what a step skips, as the code names it
pub found_header : (number n : ℕ) (bytes : List ℕ)
    → n ≡ required_len number bytes → n ≤ length bytes →
    (header : List ℕ) × IsWhole number header
    × (bytes ≡ header ++ take (length bytes - n) (drop n bytes))
    × (get_or bytes 0 0 ≡ get_or header 0 0)
found_header number n bytes e h =
    let required = required_of number bytes (rw (← e) h) in
    let same : n ≡ skipped_len number bytes = e ∙ required.1 in
    let least = eight_le number bytes in (
      take n bytes,
      rw same (whole_prefix number bytes (rw (← e) h)),
      rw (take_rest bytes n) (sym (take-append-drop n bytes)),
      sym (get_or-take n bytes 0 0 (omega arith)),
    )

-- headers in a row have eight bytes each
pub eight_each : (number : ℕ) (headers : List (List ℕ)) (last : ℕ) → Skips number headers last
    → 8 * length headers ≤ length (concat headers)
eight_each number [] last row = omega arith
eight_each number (header ∷ headers) last row =
    grind (arith, eight_each (get_or header 0 0) headers last row.2, eight_le, length-append)

-- one more header after a row
pub skips_more : (number : ℕ) (headers : List (List ℕ)) (m : ℕ) (header : List ℕ)
    → Skips number headers m → IsTrue (is_skipped m) → IsWhole m header
    → Skips number (headers ++ header ∷ []) (get_or header 0 0)
skips_more number [] m header row skipped whole = grind arith
skips_more number (first ∷ headers) m header row skipped whole =
    (row.0, row.1, skips_more (get_or first 0 0) headers m header row.2 skipped whole)

pub concat_more : (headers : List (List ℕ)) (header : List ℕ)
    → concat (headers ++ header ∷ []) ≡ concat headers ++ header
concat_more [] header = append-nil header
concat_more (first ∷ headers) header = grind (arith, concat_more headers header, append_assoc)

stopped : (skipped : Bool) (required len : ℕ) → (IsTrue skipped → len < required)
    → (skipped && leb required len) ≡ false
stopped skipped required len h = grind arith

headers_none : (most number : ℕ) (bytes : List ℕ)
    → (IsTrue (is_skipped number) → length bytes < required_len number bytes)
    → headers_within most number bytes ≡ []
unfolding headers_within
headers_none most number bytes h = grind arith

-- a header of its own length, whatever follows it
len_again : (number : ℕ) (header rest : List ℕ) → IsWhole number header
    → skipped_len number (header ++ rest) ≡ length header
len_again number header rest whole = grind (arith, same_len, get_or_append_left)

required_again : (number : ℕ) (header rest : List ℕ) → IsWhole number header
    → required_len number (header ++ rest) ≤ length (header ++ rest)
required_again number header rest whole = grind (arith, length-append, le-ltb, len_again)

both : (a b : Bool) → a ≡ true → b ≡ true → (a && b) ≡ true
both a b e f = rw (e, f) refl

headers_one : (most number : ℕ) (header rest : List ℕ) → IsTrue (is_skipped number)
    → IsWhole number header → headers_within (suc most) number (header ++ rest) ≡ header ∷
    headers_within most (get_or header 0 0) rest
unfolding headers_within
headers_one most number header rest skipped whole =
    grind (arith, both, le-leb, required_again, len_again, take_at, drop_at, get_or_append_left)

-- the function finds the headers in a row
found_headers : (most number : ℕ) (headers : List (List ℕ)) (last : ℕ) (rest : List ℕ)
    → length headers ≤ most → Skips number headers last
    → (IsTrue (is_skipped last) → length rest < required_len last rest)
    → headers_within most number (concat headers ++ rest) ≡ headers
found_headers most number [] last rest h row ended = grind (arith, headers_none)
found_headers zero number (header ∷ headers) last rest h row ended = absurd (omega arith)
found_headers (suc most) number (header ∷ headers) last rest h row ended =
    grind (
      arith,
      found_headers most (get_or header 0 0) headers last rest (omega arith) row.2 ended,
      append_assoc,
      headers_one,
    )

named_last : (number : ℕ) (headers : List (List ℕ)) (last : ℕ) → Skips number headers last
    → next_number_after number headers ≡ last
unfolding next_number_after
named_last number [] last row = row
named_last number (header ∷ headers) last row = named_last (get_or header 0 0) headers last row.2

-- the bytes are headers in a row and a rest
abbrev pub IsWalked : ℕ → List ℕ → Type 0
IsWalked number bytes =
    (headers : List (List ℕ)) × (last : ℕ) × (rest : List ℕ) × Walk number bytes headers last rest

walk_ends : (number : ℕ) (bytes : List ℕ)
    → (IsTrue (is_skipped number) → length bytes < required_len number bytes)
    → IsWalked number bytes
walk_ends number bytes ended =
    ([], number, bytes, record { named = refl; cut = refl; ended = ended })

walk_more : (number : ℕ) (bytes : List ℕ) → is_skipped number ≡ true
    → required_len number bytes ≤ length bytes
    → IsWalked (get_or (take (skipped_len number bytes) bytes) 0 0)
    (drop (skipped_len number bytes) bytes)
    → IsWalked number bytes
walk_more number bytes skipped fits further = (
  take (skipped_len number bytes) bytes ∷ further.0,
  further.1,
  further.2,
  record {
    named = (skipped, whole_prefix number bytes fits, further.3.named);
    cut = grind (arith, take-append-drop, append_assoc);
    ended = further.3.ended;
  },
)

walk_by : (skipped fits : Bool) (most number : ℕ) (bytes : List ℕ) → length bytes ≤ suc most
    → ((n : ℕ) (xs : List ℕ) → length xs ≤ most → IsWalked n xs)
    → is_skipped number ≡ skipped → leb (required_len number bytes) (length bytes) ≡ fits
    → IsWalked number bytes
walk_by false fits most number bytes size further skip enough =
    walk_ends number bytes (grind arith)
walk_by true false most number bytes size further skip enough =
    walk_ends number bytes (grind arith)
walk_by true true most number bytes size further skip enough =
    walk_more number bytes skip (grind arith)
    (further _ (drop (skipped_len number bytes) bytes)
    (omega (arith, length-drop (skipped_len number bytes) bytes, eight_le number bytes)))

-- all bytes are
pub walk_within : (most number : ℕ) (bytes : List ℕ) → length bytes ≤ most → IsWalked number bytes
walk_within zero number bytes fits = walk_ends number bytes (grind arith)
walk_within (suc most) number bytes fits =
    walk_by (is_skipped number) (leb (required_len number bytes) (length bytes)) most number bytes
    fits (walk_within most) refl refl

-- a walk over headers in a row is the one that the function finds
pub walk_headers : (number : ℕ) (bytes : List ℕ) (headers : List (List ℕ)) (last : ℕ)
    (rest : List ℕ) → Walk number bytes headers last rest → skipped_headers number bytes ≡ headers
walk_headers number bytes headers last rest walk =
    grind (arith, eight_each, length-append, found_headers)

pub walk_skips : (number : ℕ) (bytes : List ℕ) (headers : List (List ℕ)) (last : ℕ) (rest : List ℕ)
    → Walk number bytes headers last rest
    → skip number bytes ≡ outcome (length (concat headers)) last rest
walk_skips number bytes headers last rest walk = grind (arith, drop_at, walk_headers, named_last)

-- the turns after headers in a row
pub turns_le : (number : ℕ) (bytes : List ℕ) (headers : List (List ℕ)) (last : ℕ) (rest : List ℕ)
    (turns : ℕ) → Skips number headers last → bytes ≡ concat headers ++ rest
    → turns ≡ length headers + 1 → 8 * turns ≤ length bytes + 8
turns_le number bytes headers last rest turns row cut counted =
    grind (arith, eight_each, length-append)

pub turns_bound : (number : ℕ) (bytes : List ℕ) (headers : List (List ℕ)) (last : ℕ) (rest : List ℕ)
    (turns : ℕ) → Skips number headers last → bytes ≡ concat headers ++ rest
    → turns ≡ length headers + 1 → turns ≤ length bytes / 8 + 1
turns_bound number bytes headers last rest turns row cut counted = grind (arith, turns_le)

-- one header further
pub walk_on : (number : ℕ) (bytes : List ℕ) (headers : List (List ℕ)) (m : ℕ) (rest : List ℕ)
    (turns : ℕ) (header following : List ℕ) (next : ℕ) →
    Skips number headers m → bytes ≡ concat headers ++ rest → turns ≡ length headers + 1 →
    IsTrue (is_skipped m) → IsWhole m header → rest ≡ header ++ following → next ≡ get_or header 0 0 →
    Skips number (headers ++ header ∷ []) next × (bytes ≡ concat (headers ++ header ∷ []) ++ following)
    × (turns + 1 ≡ length (headers ++ header ∷ []) + 1)
walk_on number bytes headers m rest turns header following next row cut counted skipped
    whole rest_is next_is = (
      grind (arith, skips_more),
      grind (arith, append_assoc, concat_more),
      omega (arith, length-append headers (header ∷ [])),
    )

-- the same result for every division of the bytes into headers in a row and a rest
pub gives_same : (number : ℕ) (bytes : List ℕ) (headers others : List (List ℕ))
    (last other_last : ℕ) (rest other_rest : List ℕ)
    (answer : Result (IpNumber × Bor (List ℕ)) LenError) →
    Walk number bytes headers last rest → Walk number bytes others other_last other_rest →
    Gives (outcome (length (concat headers)) last rest) answer
    → Gives (outcome (length (concat others)) other_last other_rest) answer
gives_same number bytes headers others last other_last rest other_rest answer walk other gives =
    subst (λ (wanted : Result (ℕ × List ℕ) LenError). Gives wanted answer)
    (sym (walk_skips number bytes headers last rest walk)
    ∙ walk_skips number bytes others other_last other_rest other)
    gives

pub ends_same : (number : ℕ) (bytes : List ℕ) (headers others : List (List ℕ)) (last other_last : ℕ)
    (rest other_rest : List ℕ) (answer : Result (IpNumber × Bor (List ℕ)) LenError) (turns : ℕ) →
    Walk number bytes headers last rest → Walk number bytes others other_last other_rest →
    Ends headers last rest answer turns → Ends others other_last other_rest answer turns
ends_same number bytes headers others last other_last rest other_rest answer turns walk other ends =
    let same = sym (walk_headers number bytes headers last rest walk)
    ∙ walk_headers number bytes others other_last other_rest other in
    record {
      gives = gives_same number bytes headers others last other_last rest other_rest
          answer walk other ends.gives;
      counted = grind arith;
    }

-- the result is that of the function
pub gives_skip : (number : ℕ) (bytes : List ℕ) (headers : List (List ℕ)) (last : ℕ) (rest : List ℕ)
    (answer : Result (IpNumber × Bor (List ℕ)) LenError) →
    Walk number bytes headers last rest → Gives (outcome (length (concat headers)) last rest) answer
    → Gives (skip number bytes) answer
gives_skip number bytes headers last rest answer walk gives =
    subst (λ (wanted : Result (ℕ × List ℕ) LenError). Gives wanted answer)
    (sym (walk_skips number bytes headers last rest walk)) gives
