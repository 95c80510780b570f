-- Bytes of which some are missing, and more of them.
use Rattle.std.proofs.Common.{◌≡◌, ℕ, ◌+◌, ◌-◌, ◌^◌, ◌<◌, ◌≤◌, Bool, true, false, cond, List, [], ◌∷◌, ◌++◌, length}
use Rattle.std.proofs.Common.{take, drop, get_or, max, ltb, not, Option, Some, None, arith, refl}
use Rattle.std.proofs.Common.{ap, sym, replicate, ◌⊎◌, inl, inr}
use Rattle.std.proofs.lemmas.Bool.{cases_lt}
use Rattle.std.proofs.lemmas.Bool.Decides.{nat_tests}
use Rattle.std.proofs.lemmas.Grind.{elements}
use Rattle.std.proofs.lemmas.List.{length-append, length-take, length-drop, length-replicate, append-nil, take_more}
use Rattle.std.proofs.lemmas.List.{drop-take, get_or-take, get_or-drop}
use Rattle.std.specs.Option.{option_or}
use Rattle.std.specs.Prelude.{◌==◌}
use Rattle.tcp_streams.specs.declared.gaps.Gap.{Gap}
use Rattle.tcp_streams.specs.Gaps.{is_missing, AreGapsIn, AreRunsIn, first_gap_start, split_at}
use Rattle.tcp_streams.specs.Gaps.{with_gap, without}
use Rattle.tcp_streams.specs.PlacedSegments.{byte_from, differs, clashes}
use Rattle.tcp_streams.specs.SparseBytes.{Sparse, sparse, IsSparse, held_end, byte_in, available_end, end_with}
use Rattle.tcp_streams.specs.SparseBytes.{AddsBytes, Fills}
use Rattle.tcp_streams.proofs.GapLemmas.{is_missing-append, is_missing-without, gaps_weaker, gaps_end, gaps_push}
use Rattle.tcp_streams.proofs.GapLemmas.{without_end, without_ordered}
use Rattle.tcp_streams.proofs.RunLemmas.{is_missing-split, none_before, runs_of_gaps, split_runs, without-split}
use Rattle.tcp_streams.proofs.SegmentLemmas.{byte_from-here, byte_from-is, byte_from-none, nothing_after}
use Rattle.tcp_streams.proofs.SegmentLemmas.{clashes_same, clashes_none, clashes-push}

-- ---- what isn't missing

pub not_missing_before : (from to : ℕ) (gs : List Gap) (p : ℕ) → AreGapsIn from to gs → p < from
    → is_missing gs p ≡ false
not_missing_before from to gs p h below = none_before from to gs p (runs_of_gaps from to gs h) below

pub not_missing_after : (from to : ℕ) (gs : List Gap) (p : ℕ) → AreGapsIn from to gs → to ≤ p
    → is_missing gs p ≡ false
not_missing_after from to [] p h above = refl
not_missing_after from to (g ∷ gs) p h above =
    let end = gaps_end (g.end + 1) to gs h.2 in
    let rest = not_missing_after (g.end + 1) to gs p h.2 above in grind (arith, nat_tests)

-- the first gap
pub first_missing : (from to : ℕ) (gs : List Gap) (p : ℕ) → AreGapsIn from to gs → p < first_gap_start gs to
    → is_missing gs p ≡ false
first_missing from to [] p h below = refl
first_missing from to (g ∷ gs) p h below =
    grind (arith, nat_tests, not_missing_before (g.end + 1) to gs p h.2 (omega arith))

pub first_gap_start-missing : (from to : ℕ) (g : Gap) (gs : List Gap) → AreGapsIn from to (g ∷ gs)
    → is_missing (g ∷ gs) g.start ≡ true
first_gap_start-missing from to g gs h = grind (arith, nat_tests)

pub first_gap_start-bounds : (from to : ℕ) (gs : List Gap) → AreGapsIn from to gs
    → (from ≤ first_gap_start gs to) × (first_gap_start gs to ≤ to)
first_gap_start-bounds from to [] h = (h, omega arith)
first_gap_start-bounds from to (g ∷ gs) h = (h.0, omega (arith, gaps_end (g.end + 1) to gs h.2))

pub available_bounds : (held : Sparse) → IsSparse held
    → (held.taken ≤ available_end held) × (available_end held ≤ held_end held)
available_bounds held sound = first_gap_start-bounds held.taken (held_end held) held.gaps sound.gaps

pub available_fits : (held : Sparse) (end : ℕ) (items : List ℕ) → IsSparse held → end ≡ available_end held
    → items ≡ held.bytes → end - held.taken ≡ length (take (end - held.taken) items)
available_fits held end items sound is items_are =
    let bounds = available_bounds held sound in
    let size : length items ≡ length held.bytes = ap length items_are in
    simp length-take (omega (arith, bounds.0, bounds.1, size))

-- ---- bytes are added

byte_from-before : (q : ℕ) (bs : List ℕ) (p : ℕ) → p < q → byte_from q bs p ≡ None
byte_from-before q bs p h = grind (arith, nat_tests)

byte_from-append : (q : ℕ) (cs bs : List ℕ) (p : ℕ) → q ≤ p
    → byte_from q (cs ++ bs) p ≡ option_or (byte_from q cs p) (byte_from (q + length cs) bs p)
byte_from-append q cs bs p h = grind (arith, elements, nat_tests)

-- after the last one
pub adds_after : (old new : Sparse) (bytes : List ℕ) → IsSparse old → new.taken ≡ old.taken
    → new.bytes ≡ old.bytes ++ bytes → new.gaps ≡ old.gaps → AddsBytes old new (held_end old) bytes
adds_after old new bytes sound taken is gaps = record {
  taken = taken;
  last = rw (taken, is, length-append old.bytes bytes) (grind (arith, nat_tests));
  held = λ p h.
      let parts = byte_from-append old.taken old.bytes bytes p h in
      let after = not_missing_after old.taken (held_end old) old.gaps p sound.gaps in
      let none = byte_from-none old.taken old.bytes p in
      rw (taken, is, gaps) (grind (arith, nat_tests, parts, after, none, byte_from-before));
}

-- ---- bytes that differ

no_difference : (b : ℕ) → differs (Some b) b ≡ false
no_difference b = grind (arith, nat_tests)

pub same_bytes : (q : ℕ) (there bs : List ℕ) → there ≡ bs → clashes (byte_from q there) q bs ≡ []
same_bytes q there bs is =
    rw is (clashes_none (byte_from q bs) q bs (λ i h.
    rw (byte_from-is q bs (q + i) i refl h) (no_difference (get_or bs i 0))))

-- the positions up to the next byte
pub clashes_more : (q : ℕ) (there bs : List ℕ) (i : ℕ) → length there ≡ length bs → i < length bs
    → clashes (byte_from q there) q (take (i + 1) bs)
    ≡ clashes (byte_from q there) q (take i bs)
    ++ cond (not (get_or there i 0 == get_or bs i 0)) ((q + i) ∷ []) []
clashes_more q there bs i size h =
    let here = byte_from-is q there (q + i) i refl (omega arith) in
    let prefix : length (take i bs) ≡ i = simp length-take (omega arith) in
    rw (take_more bs i 0 h, clashes-push (byte_from q there) q (take i bs) (get_or bs i 0), prefix, here)

pub clashes_more_other : (q : ℕ) (there bs : List ℕ) (i : ℕ) → length there ≡ length bs → i < length bs
    → (get_or there i 0 ≡ get_or bs i 0 → ⊥) → clashes (byte_from q there) q (take (i + 1) bs)
    ≡ clashes (byte_from q there) q (take i bs) ++ (q + i) ∷ []
clashes_more_other q there bs i size h other =
    let test : not (get_or there i 0 == get_or bs i 0) ≡ true = grind (arith, nat_tests) in
    let more = clashes_more q there bs i size h in rw test at more

pub clashes_more_same : (q : ℕ) (there bs : List ℕ) (i : ℕ) → length there ≡ length bs → i < length bs
    → get_or there i 0 ≡ get_or bs i 0
    → clashes (byte_from q there) q (take (i + 1) bs) ≡ clashes (byte_from q there) q (take i bs)
clashes_more_same q there bs i size h same =
    let test : not (get_or there i 0 == get_or bs i 0) ≡ false = grind (arith, nat_tests) in
    let more = clashes_more q there bs i size h in rw (test, append-nil) at more

-- of a byte that is written where it is missing
chosen : (missing : Bool) (b there : ℕ)
    → Some (cond missing b there) ≡ option_or (cond missing None (Some there)) (Some b)
chosen true b there = refl
chosen false b there = refl

no_clash : (missing : Bool) (b there : ℕ)
    → differs (Some (cond missing b there)) b ≡ differs (cond missing None (Some there)) b
no_clash true b there = grind (arith, nat_tests)
no_clash false b there = refl

-- ---- bytes are written among those that are there

module _ (taken position size : ℕ) (there bytes written : List ℕ) (gaps : List Gap)
    (after : taken ≤ position) (within : position + length bytes ≤ taken + length there)
    (size_is : size ≡ length bytes)
    (fills : Fills gaps position (take size (drop (position - taken) there)) written bytes) where
  here_size : length (take size (drop (position - taken) there)) ≡ length bytes
  here_size = simp (length-take, length-drop) (omega arith)

  here_at : (i : ℕ) → i < length bytes
      → get_or (take size (drop (position - taken) there)) i 0 ≡ get_or there (position - taken + i) 0
  here_at i h = let short : i < size = omega arith in rw (get_or-take, get_or-drop)

  abbrev after_write : List ℕ
  after_write = take (position - taken) there ++ (written ++ drop size (drop (position - taken) there))

  size_after : length after_write ≡ length there
  size_after = let filled = fills.size in let was = here_size in
      simp (length-append, length-take, length-drop) (omega arith)

  outside : (k : ℕ) → (k < position - taken) ⊎ (position - taken + length bytes ≤ k)
      → get_or after_write k 0 ≡ get_or there k 0
  outside k h = let filled = fills.size in let was = here_size in grind (arith, elements)

  inside : (i : ℕ) → i < length bytes → get_or after_write (position - taken + i) 0
      ≡ cond (is_missing gaps (position + i)) (get_or bytes i 0) (get_or there (position - taken + i) 0)
  inside i h =
      let filled = fills.size in let was = here_size in
      let at : get_or after_write (position - taken + i) 0 ≡ get_or written i 0 = grind (arith, elements) in
      let is = fills.filled i (omega arith) in
      rw (at, is, here_at i h)

  abbrev before_merge : Sparse
  before_merge = record { taken = taken; bytes = there; gaps = gaps }

  abbrev after_merge : Sparse
  after_merge = record { taken = taken; bytes = after_write; gaps = without position (position + length bytes) gaps }

  held_outside : (p : ℕ) → taken ≤ p → (p < position) ⊎ (position + length bytes ≤ p)
      → byte_in after_merge p ≡ byte_in before_merge p
  held_outside p low h =
      let missing : is_missing (without position (position + length bytes) gaps) p ≡ is_missing gaps p =
      grind (arith, nat_tests, is_missing-without position (position + length bytes) gaps p (omega arith)) in
      let there_is : (p - taken < position - taken) ⊎ (position - taken + length bytes ≤ p - taken) =
      elim h [ inl below ↦ inl (omega arith) | inr above ↦ inr (omega arith) ] in
      rw (missing, size_after, outside (p - taken) there_is)

  held_inside : (i : ℕ) → i < length bytes → byte_in after_merge (position + i)
      ≡ option_or (byte_in before_merge (position + i)) (Some (get_or bytes i 0))
  held_inside i h =
      let missing : is_missing (without position (position + length bytes) gaps) (position + i) ≡ false =
      grind (arith, nat_tests, is_missing-without position (position + length bytes) gaps (position + i) (omega arith)) in
      let at : position + i ≡ taken + (position - taken + i) = omega arith in
      let whole = size_after in
      let new = byte_from-is taken after_write (position + i) (position - taken + i) at (omega arith) in
      let old = byte_from-is taken there (position + i) (position - taken + i) at (omega arith) in
      rw (missing, new, old, inside i h) (chosen (is_missing gaps (position + i)) (get_or bytes i 0) (get_or there (position - taken + i) 0))

  pub adds_merge : AddsBytes before_merge after_merge position bytes
  adds_merge = record {
    taken = refl;
    last = let whole = size_after in rw whole (grind (arith, nat_tests));
    held = λ p low. elim (cases_lt p position) [
      | inl below ↦ rw (held_outside p low (inl below), byte_from-before position bytes p below)
          (sym (nothing_after (byte_in before_merge p)))
      | inr from ↦ elim (cases_lt p (position + length bytes)) [
        | inl here ↦
            let at : position + (p - position) ≡ p = omega arith in
            rw (byte_from-here position bytes p from here) (rw at at (held_inside (p - position) (omega arith)))
        | inr above ↦ rw (held_outside p low (inr above), byte_from-none position bytes p above)
            (sym (nothing_after (byte_in before_merge p)))
      ]
    ];
  }

  pub conflicts_merge : clashes (byte_from position written) position bytes
      ≡ clashes (byte_in before_merge) position bytes
  conflicts_merge = clashes_same (byte_from position written) (byte_in before_merge) position bytes (λ i h.
      let filled = fills.size in let was = here_size in
      let at : position + i ≡ taken + (position - taken + i) = omega arith in
      let new = byte_from-is position written (position + i) i refl (omega arith) in
      let old = byte_from-is taken there (position + i) (position - taken + i) at (omega arith) in
      rw (new, old, fills.filled i (omega arith), here_at i h)
      (no_clash (is_missing gaps (position + i)) (get_or bytes i 0) (get_or there (position - taken + i) 0)))

-- ---- missing bytes are put after the last one

module _ (taken len : ℕ) (bytes : List ℕ) (gaps : List Gap) (o : AreGapsIn taken (taken + length bytes) gaps)
    (longer : length bytes < len) where
  abbrev zeros : List ℕ
  zeros = replicate (len - length bytes) 0

  abbrev last_gap : Gap
  last_gap = record { start = taken + length bytes; end = taken + len }

  pub lengthened_size : length (bytes ++ zeros) ≡ len
  lengthened_size = simp (length-append, length-replicate) (omega arith)

  pub lengthened_byte : (p : ℕ) → taken ≤ p
      → byte_in (sparse taken (bytes ++ zeros) (gaps ++ last_gap ∷ [])) p ≡ byte_in (sparse taken bytes gaps) p
  lengthened_byte p low =
      let missing = is_missing-append gaps (last_gap ∷ []) p in
      let size = lengthened_size in
      elim (cases_lt p (taken + length bytes)) [
        | inl below ↦
            let same : is_missing (gaps ++ last_gap ∷ []) p ≡ is_missing gaps p = grind (arith, nat_tests) in
            rw (same, byte_from-append taken bytes zeros p low, byte_from-here taken bytes p low below)
        | inr above ↦
            let was = not_missing_after taken (taken + length bytes) gaps p o above in
            rw (was, byte_from-none taken bytes p above) (elim (cases_lt p (taken + len)) [
              | inl in_gap ↦
                  let now : is_missing (gaps ++ last_gap ∷ []) p ≡ true = grind (arith, nat_tests) in rw now
              | inr past ↦
                  let now : is_missing (gaps ++ last_gap ∷ []) p ≡ false = grind (arith, nat_tests) in
                  rw (now, byte_from-none taken (bytes ++ zeros) p (omega arith))
            ])
      ]

  pub lengthened_gaps : AreGapsIn taken (taken + len + 1) (gaps ++ last_gap ∷ [])
  lengthened_gaps = gaps_push taken (taken + length bytes) (taken + len) gaps o (omega arith)

-- ---- bytes are consumed

gaps_from : (from from' to : ℕ) (gs : List Gap) → AreGapsIn from to gs → from' ≤ first_gap_start gs to
    → AreGapsIn from' to gs
gaps_from from from' to [] o h = h
gaps_from from from' to (g ∷ gs) o h = (h, o.1, o.2)

module _ (held : Sparse) (count : ℕ) (sound : IsSparse held) (few : held.taken + count ≤ available_end held) where
  abbrev consumed : Sparse
  consumed = sparse (held.taken + count) (drop count held.bytes) held.gaps

  pub consumed_short : count ≤ length held.bytes
  consumed_short = let bounds = available_bounds held sound in omega arith

  pub consumed_end : held_end consumed ≡ held_end held
  consumed_end = let short = consumed_short in omega (arith, length-drop count held.bytes)

  pub consumed_sparse : IsSparse consumed
  consumed_sparse =
      let end = consumed_end in record {
        gaps = rw end (gaps_from held.taken (held.taken + count) (held_end held) held.gaps sound.gaps few);
        short = rw end sound.short;
      }

  pub consumed_byte : (p : ℕ) → held.taken + count ≤ p → byte_in consumed p ≡ byte_in held p
  consumed_byte p low =
      let short = consumed_short in
      let end = consumed_end in
      elim (cases_lt p (held_end held)) [
        | inl below ↦
            let at : p ≡ held.taken + (p - held.taken) = omega arith in
            let at' : p ≡ held.taken + count + (p - (held.taken + count)) = omega arith in
            let same : count + (p - (held.taken + count)) ≡ p - held.taken = omega arith in
            let new = byte_from-is (held.taken + count) (drop count held.bytes) p (p - (held.taken + count)) at' (omega arith) in
            let old = byte_from-is held.taken held.bytes p (p - held.taken) at (omega arith) in
            rw (new, old, get_or-drop, same)
        | inr above ↦ rw (
          byte_from-none held.taken held.bytes p above,
          byte_from-none (held.taken + count) (drop count held.bytes) p (omega arith),
        )
      ]

  pub consumed_available : take (available_end consumed - consumed.taken) consumed.bytes
      ≡ drop count (take (available_end held - held.taken) held.bytes)
  consumed_available =
      let end = consumed_end in
      let rest : available_end held - held.taken ≡ count + (available_end held - (held.taken + count)) = omega arith in
      rw (end, rest, drop-take)

clashes_past : (f : ℕ → Option ℕ) (p : ℕ) (bs : List ℕ) → ((q : ℕ) → p ≤ q → f q ≡ None) → clashes f p bs ≡ []
clashes_past f p bs none = clashes_none f p bs (λ i h. rw (none (p + i) (omega arith)))

pub adds_sound : (old new : Sparse) (bytes : List ℕ) → IsSparse old → new ≡ sparse old.taken (old.bytes ++ bytes) old.gaps
    → held_end old + length bytes ≤ 2 ^ 63 → IsSparse new
adds_sound old new bytes sound is short =
    let size = length-append old.bytes bytes in
    let end : held_end (sparse old.taken (old.bytes ++ bytes) old.gaps) ≡ held_end old + length bytes = omega arith in
    rw is record {
      gaps = rw end (gaps_weaker old.taken old.taken (held_end old) (held_end old + length bytes) old.gaps
          (omega arith) (omega arith) sound.gaps);
      short = rw end short;
    }

-- no byte is held after the last one
pub clashes_after : (old : Sparse) (position : ℕ) (bytes : List ℕ) → IsSparse old → held_end old ≤ position
    → clashes (byte_in old) position bytes ≡ []
clashes_after old position bytes sound after = clashes_past (byte_in old) position bytes (λ q above.
    rw (not_missing_after old.taken (held_end old) old.gaps q sound.gaps (omega arith))
    (byte_from-none old.taken old.bytes q (omega arith)))

-- ---- bytes are added after a gap

module _ (old : Sparse) (len : ℕ) (bytes : List ℕ) (sound : IsSparse old) (longer : length old.bytes < len)
    (some : 0 < length bytes) (short : old.taken + len + length bytes ≤ 2 ^ 63) where
  abbrev with_zeros : List ℕ
  with_zeros = old.bytes ++ replicate (len - length old.bytes) 0

  abbrev gap_before : Gap
  gap_before = record { start = held_end old; end = old.taken + len }

  abbrev after_gap : Sparse
  after_gap = sparse old.taken (with_zeros ++ bytes) (old.gaps ++ gap_before ∷ [])

  end_after_gap : held_end after_gap ≡ old.taken + len + length bytes
  end_after_gap = let size = lengthened_size old.taken len old.bytes old.gaps sound.gaps longer in
      omega (arith, size, length-append with_zeros bytes)

  byte_after_gap : (p : ℕ) → old.taken ≤ p
      → byte_in after_gap p ≡ option_or (byte_in old p) (byte_from (old.taken + len) bytes p)
  byte_after_gap p low =
      let size = lengthened_size old.taken len old.bytes old.gaps sound.gaps longer in
      let parts = byte_from-append old.taken with_zeros bytes p low in
      elim (cases_lt p (old.taken + len)) [
        | inl below ↦
            let same = lengthened_byte old.taken len old.bytes old.gaps sound.gaps longer p low in
            let here = byte_from-here old.taken with_zeros p low (omega (arith, size)) in
            rw (byte_from-before (old.taken + len) bytes p below, nothing_after (byte_in old p), ← same, parts, here)
        | inr above ↦
            let none = not_missing_after old.taken (held_end old) old.gaps p sound.gaps (omega arith) in
            let missing = is_missing-append old.gaps (gap_before ∷ []) p in
            let past : is_missing (old.gaps ++ gap_before ∷ []) p ≡ false = grind (arith, nat_tests) in
            let no_zero = byte_from-none old.taken with_zeros p (omega (arith, size)) in
            let no_byte = byte_from-none old.taken old.bytes p (omega arith) in
            grind (arith, nat_tests, parts, size, past, none, no_zero, no_byte)
      ]

  adds_after_gap : AddsBytes old after_gap (old.taken + len) bytes
  adds_after_gap = record {
    taken = refl;
    last =
        let end : end_with (old.taken + len) bytes ≡ old.taken + len + length bytes = grind (arith, nat_tests) in
        rw (end, end_after_gap) (omega arith);
    held = byte_after_gap;
  }

  sound_after_gap : IsSparse after_gap
  sound_after_gap = record {
    gaps = rw end_after_gap (gaps_weaker old.taken old.taken (old.taken + len + 1) (old.taken + len + length bytes)
        (old.gaps ++ gap_before ∷ []) (omega arith) (omega arith)
        (lengthened_gaps old.taken len old.bytes old.gaps sound.gaps longer));
    short = rw end_after_gap short;
  }

pub added_after_gap : (old : Sparse) (position : ℕ) (bytes new_bytes : List ℕ) (new_gaps : List Gap) → IsSparse old
    → held_end old < position → 0 < length bytes → position + length bytes ≤ 2 ^ 63
    → new_bytes ≡ (old.bytes ++ replicate (position - old.taken - length old.bytes) 0) ++ bytes
    → new_gaps ≡ with_gap (held_end old) position old.gaps
    → AddsBytes old (sparse old.taken new_bytes new_gaps) position bytes × IsSparse (sparse old.taken new_bytes new_gaps)
added_after_gap old position bytes new_bytes new_gaps sound after some short bytes_are gaps_are =
    let at : old.taken + (position - old.taken) ≡ position = omega arith in
    let test : ltb (held_end old) position ≡ true = grind (arith, nat_tests) in
    let gaps_are = rw test at gaps_are in
    let short : old.taken + (position - old.taken) + length bytes ≤ 2 ^ 63 = omega arith in
    let adds = adds_after_gap old (position - old.taken) bytes sound (omega arith) some short in
    let sparse = sound_after_gap old (position - old.taken) bytes sound (omega arith) some short in
    rw (bytes_are, gaps_are) (rw at at adds, rw at at sparse)

-- ---- bytes are added wherever they stand

module _ (old : Sparse) (position len : ℕ) (bytes : List ℕ) (sound : IsSparse old) (after : old.taken ≤ position)
    (some : 0 < length bytes) (short : position + length bytes ≤ 2 ^ 63)
    (len_is : len ≡ position - old.taken + length bytes) where
  abbrev pub long_bytes : List ℕ
  long_bytes = old.bytes ++ replicate (len - length old.bytes) 0

  abbrev pub long_gaps : List Gap
  long_gaps = with_gap (held_end old) (old.taken + len) old.gaps

  no_zeros : len ≤ length old.bytes → long_bytes ≡ old.bytes
  no_zeros h = let none : len - length old.bytes ≡ 0 = omega arith in rw (none, append-nil)

  no_gap : len ≤ length old.bytes → long_gaps ≡ old.gaps
  no_gap h = let test : ltb (held_end old) (old.taken + len) ≡ false = grind (arith, nat_tests) in rw test

  one_gap : length old.bytes < len
      → long_gaps ≡ old.gaps ++ (record { start = held_end old; end = old.taken + len }) ∷ []
  one_gap h = let test : ltb (held_end old) (old.taken + len) ≡ true = grind (arith, nat_tests) in rw test

  pub long_size : length long_bytes ≡ max (length old.bytes) len
  long_size = simp (length-append, length-replicate) (omega arith)

  pub long_byte : (p : ℕ) → old.taken ≤ p → byte_in (sparse old.taken long_bytes long_gaps) p ≡ byte_in old p
  long_byte p low = elim (cases_lt (length old.bytes) len) [
    | inl longer ↦ rw (one_gap longer) (lengthened_byte old.taken len old.bytes old.gaps sound.gaps longer p low)
    | inr enough ↦ rw (no_gap enough, no_zeros enough)
  ]

  pub long_ordered : AreGapsIn old.taken (old.taken + length long_bytes + 1) long_gaps
  long_ordered = elim (cases_lt (length old.bytes) len) [
    | inl longer ↦
        let end : old.taken + length long_bytes + 1 ≡ old.taken + len + 1 = omega (arith, long_size) in
        rw (one_gap longer, end) (lengthened_gaps old.taken len old.bytes old.gaps sound.gaps longer)
    | inr enough ↦
        rw (no_gap enough) (gaps_weaker old.taken old.taken (held_end old) _ old.gaps (omega arith)
        (omega (arith, long_size)) sound.gaps)
  ]

  pub long_bounded : AreGapsIn 0 (2 ^ 64) long_gaps
  long_bounded = gaps_weaker old.taken 0 (old.taken + length long_bytes + 1) (2 ^ 64) long_gaps (omega arith)
      (omega (arith, long_size, sound.short)) long_ordered

  pub long_clashes : clashes (byte_in (sparse old.taken long_bytes long_gaps)) position bytes
      ≡ clashes (byte_in old) position bytes
  long_clashes = clashes_same (byte_in (sparse old.taken long_bytes long_gaps)) (byte_in old) position bytes
      (λ i h. ap (λ (o : Option ℕ). differs o (get_or bytes i 0)) (long_byte (position + i) (omega arith)))

  module _ (new_bytes : List ℕ) (adds : AddsBytes (sparse old.taken long_bytes long_gaps)
      (sparse old.taken new_bytes (without position (position + length bytes) long_gaps)) position bytes) where
    new_end : old.taken + length new_bytes ≡ max (held_end old) (position + length bytes)
    new_end =
        let last = adds.last in
        let size = long_size in
        let end : end_with position bytes ≡ position + length bytes = grind (arith, nat_tests) in
        omega (arith, last, size, end)

    pub adds_long : AddsBytes old (sparse old.taken new_bytes (without position (position + length bytes) long_gaps)) position bytes
    adds_long = record {
      taken = refl;
      last =
          let end : end_with position bytes ≡ position + length bytes = grind (arith, nat_tests) in
          rw end new_end;
      held = λ p low. rw (adds.held p low, long_byte p low);
    }

    pub sound_long : IsSparse (sparse old.taken new_bytes (without position (position + length bytes) long_gaps))
    sound_long = record {
      gaps = elim (cases_lt (length old.bytes) len) [
        | inl longer ↦
            let end : old.taken + length new_bytes ≡ position + length bytes = omega (arith, new_end) in
            let high : old.taken + length long_bytes + 1 ≡ position + length bytes + 1 = omega (arith, long_size) in
            rw end (without_end old.taken position (position + length bytes) long_gaps (omega arith) (omega arith)
            (rw high at long_ordered))
        | inr enough ↦
            let end : old.taken + length new_bytes ≡ held_end old = omega (arith, new_end) in
            rw (end, no_gap enough) (without_ordered old.taken (held_end old) position (position + length bytes)
            old.gaps (omega arith) sound.gaps)
      ];
      short = rw new_end (omega (arith, sound.short));
    }

-- the same where a gap was made two
adds_split : (taken position end : ℕ) (bytes new_bytes adds : List ℕ) (gs : List Gap) → position < end
    → AddsBytes (sparse taken bytes (split_at position gs))
    (sparse taken new_bytes (without position end (split_at position gs))) position adds
    → AddsBytes (sparse taken bytes gs) (sparse taken new_bytes (without position end gs)) position adds
adds_split taken position end bytes new_bytes adds gs some h =
    let h = rw (without-split position end gs some) at h in record {
      taken = refl;
      last = h.last;
      held = λ p low. let same = is_missing-split position gs p in rw same at (h.held p low);
    }

pub added : (old : Sparse) (position len : ℕ) (bytes mid_bytes new_bytes : List ℕ) (mid_gaps new_gaps : List Gap)
    → IsSparse old → old.taken ≤ position → 0 < length bytes → position + length bytes ≤ 2 ^ 63
    → len ≡ position - old.taken + length bytes
    → mid_bytes ≡ old.bytes ++ replicate (len - length old.bytes) 0
    → mid_gaps ≡ split_at position (with_gap (held_end old) (old.taken + len) old.gaps)
    → AddsBytes (sparse old.taken mid_bytes mid_gaps)
    (sparse old.taken new_bytes (without position (position + length bytes) mid_gaps)) position bytes
    → new_gaps ≡ without position (position + length bytes) mid_gaps
    → AddsBytes old (sparse old.taken new_bytes new_gaps) position bytes × IsSparse (sparse old.taken new_bytes new_gaps)
added old position len bytes mid_bytes new_bytes mid_gaps new_gaps sound after some short len_is mid_is gaps_are adds new_is =
    let gaps = with_gap (held_end old) (old.taken + len) old.gaps in
    let end : position < position + length bytes = omega arith in
    let adds = adds_split old.taken position (position + length bytes)
    (old.bytes ++ replicate (len - length old.bytes) 0) new_bytes bytes gaps end (rw (mid_is, gaps_are) at adds) in
    rw (new_is, gaps_are, without-split position (position + length bytes) gaps end) (
      adds_long old position len bytes sound after some short len_is new_bytes adds,
      sound_long old position len bytes sound after some short len_is new_bytes adds,
    )

pub split_order : (old : Sparse) (position len : ℕ) (bytes : List ℕ) (mid_gaps : List Gap)
    → IsSparse old → old.taken ≤ position → 0 < length bytes → position + length bytes ≤ 2 ^ 63
    → len ≡ position - old.taken + length bytes
    → mid_gaps ≡ split_at position (with_gap (held_end old) (old.taken + len) old.gaps)
    → AreRunsIn 0 (2 ^ 64) mid_gaps
split_order old position len bytes mid_gaps sound after some short len_is is =
    rw is (split_runs 0 (2 ^ 64) position _ (runs_of_gaps 0 (2 ^ 64) _
    (long_bounded old position len bytes sound after some short len_is)))

pub split_clashes : (taken position : ℕ) (bytes adds : List ℕ) (gs : List Gap)
    → clashes (byte_in (sparse taken bytes (split_at position gs))) position adds
    ≡ clashes (byte_in (sparse taken bytes gs)) position adds
split_clashes taken position bytes adds gs =
    clashes_same (byte_in (sparse taken bytes (split_at position gs))) (byte_in (sparse taken bytes gs)) position adds
    (λ i h. let same = is_missing-split position gs (position + i) in rw same refl)
