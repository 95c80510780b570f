-- Bytes that are lost and given up.
use Rattle.std.proofs.Common.{◌≡◌, ℕ, ◌+◌, ◌-◌, ◌%◌, ◌^◌, ◌<◌, ◌≤◌, inl, inr, Bool, true, false, cond, leb, max, min}
use Rattle.std.proofs.Common.{Option, Some, None, List, [], ◌∷◌, ◌++◌, length, drop, replicate, arith, refl, sym, ap}
use Rattle.std.proofs.lemmas.Bool.{cases_lt}
use Rattle.std.proofs.lemmas.Bool.Decides.{nat_tests}
use Rattle.std.proofs.lemmas.List.{get_or-drop, length-drop, length-replicate, append-nil}
use Rattle.std.specs.Prelude.{IsSome, slice_get}
use Rattle.tcp_streams.specs.declared.gaps.Gap.{Gap}
use Rattle.tcp_streams.specs.declared.sequence_numbers.Distance.{Distance}
use Rattle.tcp_streams.specs.declared.sequence_numbers.Distance.TheVariants.{After, Before}
use Rattle.tcp_streams.specs.Gaps.{AreGapsIn, first_gap_start, is_missing}
use Rattle.tcp_streams.specs.Losses.{acknowledged, acknowledged_at, gap_between, given_up, lost_after, lost_by, lost_in, lost_of}
use Rattle.tcp_streams.specs.Segments.{next_position}
use Rattle.tcp_streams.specs.Refusals.{window_end}
use Rattle.tcp_streams.specs.PlacedSegments.{Placed, byte_at, byte_from, clashes, fin_of, text_of}
use Rattle.tcp_streams.specs.SequenceNumbers.{distance}
use Rattle.tcp_streams.specs.SparseBytes.{CanSkipTo, IsSparse, Skips, Sparse, available_end, held_end, sparse}
use Rattle.tcp_streams.specs.StreamBuf.{Contents, IsGapIn, Shows, next_in}
use Rattle.tcp_streams.proofs.BufLemmas.{available_size, byte_available, shows_gap, shows_gap_result, shows_length}
use Rattle.tcp_streams.proofs.BufLemmas.{shows_no_gap, shows_no_gap_result, some_or}
use Rattle.tcp_streams.proofs.GapLemmas.{gaps_end}
use Rattle.tcp_streams.proofs.SegmentLemmas.{byte_at-push, byte_from-here, byte_from-is, byte_from-none, clashes_none}
use Rattle.tcp_streams.proofs.SegmentLemmas.{conflicts_after-push, fin_of-push, is_reset-push, last_end-push, nothing_after}
use Rattle.tcp_streams.proofs.SparseLemmas.{available_bounds}

-- ---- bytes are left out

gaps_rest : (from to : ℕ) (g : Gap) (gs : List Gap) → AreGapsIn from to (g ∷ gs) → AreGapsIn g.end to gs
gaps_rest from to g [] o = omega (arith, o.2)
gaps_rest from to g (h ∷ gs) o = (omega (arith, o.2.0), o.2.1, o.2.2)

-- where they may be left out up to
pub skip_bounds : (from to position : ℕ) (gaps : List Gap) → AreGapsIn from to gaps → to ≤ 2 ^ 63
    → CanSkipTo gaps to position → (from ≤ position) × (position ≤ 2 ^ 63)
skip_bounds from to position [] o short can = (omega (arith, o, can.0), can.1)
skip_bounds from to position (g ∷ gs) o short can =
    let high = gaps_end (g.end + 1) to gs o.2 in (omega (arith, o.0, o.1, can), omega (arith, high, can))

skip_gaps : (from to end position : ℕ) (gaps : List Gap) → AreGapsIn from to gaps → CanSkipTo gaps to position
    → end ≡ max to position → AreGapsIn position end (drop 1 gaps)
skip_gaps from to end position [] o can is = omega (arith, is)
skip_gaps from to end position (g ∷ gs) o can is =
    let high = gaps_end (g.end + 1) to gs o.2 in
    let same : end ≡ to = omega (arith, is, high, can) in
    rw (same, can) (gaps_rest from to g gs o)

missing_rest : (gaps : List Gap) (to position p : ℕ) → CanSkipTo gaps to position → position ≤ p
    → is_missing (drop 1 gaps) p ≡ is_missing gaps p
missing_rest [] to position p can h = refl
missing_rest (g ∷ gs) to position p can h = grind (arith, nat_tests)

byte_rest : (taken position count : ℕ) (bytes : List ℕ) (p : ℕ) → taken ≤ position
    → count ≡ min (position - taken) (length bytes) → position ≤ p
    → byte_from position (drop count bytes) p ≡ byte_from taken bytes p
byte_rest taken position count bytes p low count_is h =
    let size = length-drop count bytes in
    elim (cases_lt p (taken + length bytes)) [
      | inl below ↦
          let at : p ≡ taken + (p - taken) = omega arith in
          let at' : p ≡ position + (p - position) = omega arith in
          let same : count + (p - position) ≡ p - taken = omega arith in
          let new = byte_from-is position (drop count bytes) p (p - position) at' (omega arith) in
          let old = byte_from-is taken bytes p (p - taken) at (omega arith) in
          rw (new, old, get_or-drop, same)
      | inr above ↦ rw (byte_from-none taken bytes p above, byte_from-none position (drop count bytes) p (omega arith))
    ]

module _ (held : Sparse) (position count : ℕ) (sound : IsSparse held)
    (can : CanSkipTo held.gaps (held_end held) position)
    (count_is : count ≡ min (position - held.taken) (length held.bytes)) where
  abbrev skipped : Sparse
  skipped = sparse position (drop count held.bytes) (drop 1 held.gaps)

  pub skipped_end : held_end skipped ≡ max (held_end held) position
  skipped_end =
      let bounds = skip_bounds held.taken (held_end held) position held.gaps sound.gaps sound.short can in
      omega (arith, length-drop count held.bytes, bounds.0, count_is)

  pub skipped_sparse : IsSparse skipped
  skipped_sparse =
      let bounds = skip_bounds held.taken (held_end held) position held.gaps sound.gaps sound.short can in
      record {
        gaps = skip_gaps held.taken (held_end held) (held_end skipped) position held.gaps sound.gaps can skipped_end;
        short = omega (arith, skipped_end, bounds.1, sound.short);
      }

  pub skipped_skips : Skips held skipped position
  skipped_skips =
      let bounds = skip_bounds held.taken (held_end held) position held.gaps sound.gaps sound.short can in
      record {
        taken = refl;
        last = skipped_end;
        held = λ p h. rw (
          missing_rest held.gaps (held_end held) position p can h,
          byte_rest held.taken position count held.bytes p bounds.0 count_is h,
        );
      }

-- ---- what is lost

acknowledged_at-most : (d : Distance) (next : ℕ) → acknowledged_at d next ≤ 2 ^ 63
acknowledged_at-most (After n) next = omega arith
acknowledged_at-most (Before n) next = omega arith

acknowledged-most : (start : Option ℕ) (next number : ℕ) → acknowledged start next number ≤ 2 ^ 63
acknowledged-most None next number = omega arith
acknowledged-most (Some start) next number = acknowledged_at-most (distance ((start + next) % 2 ^ 32) number) next

tested : (b : Bool) (o : Option Gap) (gap : Gap) → cond b o None ≡ Some gap → (b ≡ true) × (o ≡ Some gap)
tested true o gap h = (refl, h)
tested false o gap h = cc

is_le : (a b : ℕ) → leb a b ≡ true → a ≤ b
is_le a b h = grind (arith, nat_tests)

same_gap : (a b : Gap) → Some a ≡ Some b → a ≡ b
same_gap a b h = cc

between : (start end : ℕ) (gap : Gap) → gap_between start end ≡ Some gap
    → (gap.start ≡ start) × (gap.end ≡ end) × (start < end)
between start end gap h = grind (arith, nat_tests)

lost_last : (end : ℕ) (fin : Option ℕ) (window_end a : ℕ) (gap : Gap) → a ≤ 2 ^ 63
    → lost_after end fin window_end a ≡ Some gap → (gap.start ≡ end) × (end < gap.end) × (gap.end ≤ 2 ^ 63)
lost_last end (Some fin) window_end a gap most h =
    let is = tested (leb fin a) (gap_between end fin) gap h in
    let low = is_le fin a is.0 in
    let here = between end fin gap is.1 in (here.0, omega (arith, here.1, here.2), omega (arith, here.1, low))
lost_last end None window_end a gap most h =
    let is = tested _ (gap_between end a) gap h in
    let here = between end a gap is.1 in (here.0, omega (arith, here.1, here.2), omega (arith, here.1))

lost_first : (first : Gap) (end : ℕ) (fin : Option ℕ) (window_end a : ℕ) (gap : Gap)
    → lost_by (Some first) end fin window_end a ≡ Some gap → first ≡ gap
lost_first first end fin window_end a gap h =
    same_gap first gap (tested (leb first.end a) (Some first) gap h).1

lost_where : (gaps : List Gap) (from to : ℕ) (fin : Option ℕ) (window_end a : ℕ) (gap : Gap) → AreGapsIn from to gaps
    → a ≤ 2 ^ 63 → lost_by (slice_get gaps 0) (first_gap_start gaps to) fin window_end a ≡ Some gap
    → (gap.start ≡ first_gap_start gaps to) × (gap.start < gap.end) × CanSkipTo gaps to gap.end
lost_where [] from to fin window_end a gap o most h =
    let is = lost_last to fin window_end a gap most h in
    (is.0, omega (arith, is.0, is.1), (omega (arith, is.1), is.2))
lost_where (g ∷ gs) from to fin window_end a gap o most h =
    let same = lost_first g g.start fin window_end a gap h in
    let start : gap.start ≡ g.start = ap (λ (x : Gap). x.start) (sym same) in
    let end : gap.end ≡ g.end = ap (λ (x : Gap). x.end) (sym same) in
    (start, omega (arith, start, end, o.1), end)

pub lost_position : (buf : Contents) (number : ℕ) (gap : Gap) → IsSparse buf.held → lost_in buf number ≡ Some gap
    → (gap.start ≡ available_end buf.held) × (gap.start < gap.end) × CanSkipTo buf.held.gaps (held_end buf.held) gap.end
lost_position buf number gap sound lost =
    lost_where buf.held.gaps buf.held.taken (held_end buf.held) buf.fin (window_end buf.window buf.held.taken)
    (acknowledged buf.start (next_in buf) number) gap sound.gaps (acknowledged-most buf.start (next_in buf) number) lost

-- they begin where the text ends
pub lost_bounds : (window taken : ℕ) (start : Option ℕ) (ss : List Placed) (first : Option Gap) (number : ℕ) (gap : Gap)
    → IsGapIn ss first → lost_of window taken start ss first number ≡ Some gap
    → (length (text_of ss) < gap.end) × (gap.end ≤ 2 ^ 63)
lost_bounds window taken start ss None number gap is lost =
    let last = lost_last (length (text_of ss)) (fin_of ss) (window_end window taken)
    (acknowledged start (next_position ss) number) gap (acknowledged-most start (next_position ss) number) lost in
    (last.1, last.2)
lost_bounds window taken start ss (Some g) number gap is lost =
    let a = acknowledged start (next_position ss) number in
    let found = tested (leb g.end a) (Some g) gap lost in
    let low = is_le g.end a found.0 in
    let same = same_gap g gap found.1 in
    let first = rw same at is.some in
    let low = rw same at low in
    (omega (arith, first.start, first.order), omega (arith, low, acknowledged-most start (next_position ss) number))

-- ---- a buffer that gives bytes up

abbrev pub zeros : Gap → List ℕ
zeros gap = replicate (gap.end - gap.start) 0

module _ (buf : Contents) (ss : List Placed) (sound : IsSparse buf.held) (shows : Shows buf ss) where
  byte_before : (p : ℕ) → p < available_end buf.held → IsSome (byte_at ss p)
  byte_before p h = elim (cases_lt p buf.held.taken) [
    | inl low ↦ shows.before p low
    | inr high ↦
        let size = available_size buf.held sound in
        let at : buf.held.taken + (p - buf.held.taken) ≡ p = omega arith in
        let there = byte_available buf.held sound (p - buf.held.taken) (omega arith) in
        let there = rw at at there in
        let same = shows.held p high in rw (← same, there)
  ]

  pub shows_lost : (first : Option Gap) (number : ℕ) → lost_of buf.window buf.held.taken buf.start ss first number
      ≡ lost_by first (available_end buf.held) buf.fin (window_end buf.window buf.held.taken)
      (acknowledged buf.start (next_in buf) number)
  shows_lost first number = rw (shows_length buf ss sound shows, ← shows.fin)

  pub shows_first : IsGapIn ss (slice_get buf.held.gaps 0)
  shows_first = record {
    some = shows_gap_result buf ss sound shows (slice_get buf.held.gaps 0) refl;
    none = shows_no_gap_result buf ss sound shows (slice_get buf.held.gaps 0) refl;
  }

  missing_by : (first : Option Gap) (fin : Option ℕ) (window_end a : ℕ) (gap : Gap) → first ≡ slice_get buf.held.gaps 0
      → lost_by first (available_end buf.held) fin window_end a ≡ Some gap → gap.start ≡ available_end buf.held
      → (p : ℕ) → gap.start ≤ p → p < gap.end → byte_at ss p ≡ None
  missing_by None fin window_end a gap is lost start p low high =
      shows_no_gap buf ss sound shows (sym is) p (omega (arith, shows_length buf ss sound shows, start))
  missing_by (Some g) fin window_end a gap is lost start p low high =
      let same = lost_first g (available_end buf.held) fin window_end a gap lost in
      let first = rw same at (shows_gap buf ss sound shows g (sym is)) in first.missing p low high

  module _ (new : Contents) (gap : Gap) (start : gap.start ≡ available_end buf.held) (some : gap.start < gap.end)
      (missing : (p : ℕ) → gap.start ≤ p → p < gap.end → byte_at ss p ≡ None)
      (skips : Skips buf.held new.held gap.end) where
    size : length (zeros gap) ≡ gap.end - gap.start
    size = simp length-replicate

    no_conflict : clashes (byte_at ss) gap.start (zeros gap) ≡ []
    no_conflict = clashes_none (byte_at ss) gap.start (zeros gap) (λ i h.
        rw (missing (gap.start + i) (omega arith) (omega (arith, size))) refl)

    there_now : (p : ℕ) → p < gap.end → IsSome (byte_at (ss ++ given_up gap ∷ []) p)
    there_now p h =
        rw (byte_at-push ss (given_up gap) p) (elim (cases_lt p gap.start) [
          | inl low ↦ some_or (byte_at ss p) _ (byte_before p (omega (arith, start)))
          | inr high ↦ rw (
            missing p high h,
            byte_from-here gap.start (zeros gap) p high (omega (arith, size)),
          )
        ])

    same_past : (p : ℕ) → gap.end ≤ p → byte_at (ss ++ given_up gap ∷ []) p ≡ byte_at ss p
    same_past p h = rw (
      byte_at-push ss (given_up gap) p,
      byte_from-none gap.start (zeros gap) p (omega (arith, size)),
      nothing_after (byte_at ss p),
    )

    pub shows_given_up : new.fin ≡ buf.fin → new.is_reset ≡ buf.is_reset → new.conflicts ≡ buf.conflicts
        → Shows new (ss ++ given_up gap ∷ [])
    shows_given_up fin reset conflicts =
        let bounds = available_bounds buf.held sound in record {
          before = λ p h. there_now p (omega (arith, skips.taken));
          held = λ p h.
              let past : gap.end ≤ p = omega (arith, skips.taken) in
              rw (skips.held p past, same_past p past) (shows.held p (omega (arith, start, bounds.0)));
          last = rw (last_end-push ss (given_up gap), shows.last, skips.last, size) (grind (arith, nat_tests));
          fin = rw (fin, fin_of-push ss (given_up gap), nothing_after (fin_of ss)) shows.fin;
          reset = rw (reset, is_reset-push ss (given_up gap), shows.reset) (grind arith);
          conflicts = rw (conflicts, conflicts_after-push [] ss (given_up gap), no_conflict, append-nil) shows.conflicts;
        }

-- what is lost is given up
pub shows_lost_given_up : (old new : Contents) (ss : List Placed) (number : ℕ) (gap : Gap) → IsSparse old.held
    → Shows old ss → lost_in old number ≡ Some gap → Skips old.held new.held gap.end → new.fin ≡ old.fin
    → new.is_reset ≡ old.is_reset → new.conflicts ≡ old.conflicts → Shows new (ss ++ given_up gap ∷ [])
shows_lost_given_up old new ss number gap sound shows lost skips fin reset conflicts =
    let place = lost_position old number gap sound lost in
    shows_given_up old ss sound shows new gap place.0 place.1
    (missing_by old ss sound shows (slice_get old.held.gaps 0) old.fin (window_end old.window old.held.taken)
    (acknowledged old.start (next_in old) number) gap refl lost place.0)
    skips fin reset conflicts
