-- What a buffer shows, and with one more segment.
use Rattle.std.proofs.Common.{◌≡◌, ℕ, ◌+◌, ◌-◌, ◌<◌, ◌≤◌, ◌^◌, ◌↔◌, inl, inr, Bool, true, false, cond, not}
use Rattle.std.proofs.Common.{Option, Some, None, List, [], ◌∷◌, ◌++◌, length, drop, get_or, arith, refl, sym, ap}
use Rattle.std.proofs.Common.{◌∙◌, ◌*◌}
use Rattle.std.proofs.lemmas.Bool.{cases_lt}
use Rattle.std.proofs.lemmas.Bool.Decides.{nat_tests}
use Rattle.std.proofs.lemmas.List.{length-take, get_or-take}
use Rattle.std.specs.Prelude.{IsSome, IsTrue, IfSome, IfNone, IfOk, IfErr, OnOk, OnErr, slice_get, nat_eq, is_some}
use Rattle.std.specs.Prelude.{unwrap_or, Result, Ok, Err}
use Rattle.std.specs.Option.{option_or, option_eq}
use Rattle.tcp_streams.specs.declared.gaps.Gap.{Gap}
use Rattle.tcp_streams.specs.declared.refusal.Refused.{Refused}
use Rattle.tcp_streams.specs.declared.refusal.Refused.TheVariants.{OutOfMemory}
use Rattle.tcp_streams.specs.declared.sequence_numbers.Distance.{Distance}
use Rattle.tcp_streams.specs.declared.sequence_numbers.Distance.TheVariants.{After, Before}
use Rattle.tcp_streams.specs.declared.stream_buf.Added.{Added}
use Rattle.tcp_streams.specs.declared.stream_buf.Location.{Location}
use Rattle.tcp_streams.specs.Gaps.{AreGapsIn, first_gap_start, is_missing}
use Rattle.tcp_streams.specs.Segments.{Segment, bytes_of, next_position, placed, placed_at, distance_from, repeated_of, start_number}
use Rattle.tcp_streams.specs.Refusals.{fin_refusal, refusal_by, refusal_of, window_end}
use Rattle.tcp_streams.specs.PlacedSegments.{Placed, end_of, byte_at, bytes_from, text_of, fin_of}
use Rattle.tcp_streams.specs.PlacedSegments.{clashes, conflicts_with, conflicts_of, count_from, differs}
use Rattle.tcp_streams.specs.SparseBytes.{AllHeld, Sparse, sparse, IsSparse, byte_in, held_end, available_end, counted}
use Rattle.tcp_streams.specs.StreamBuf.{Contents, Shows, IsSound, IsBounded, IsFirstGap, IsLocated, IsAdded}
use Rattle.tcp_streams.specs.StreamBuf.{AnswersAdd, Accepts, available_in, next_in, placed_in, refusal_in}
use Rattle.tcp_streams.proofs.SegmentLemmas.{byte_at-push, last_end-push, fin_of-push, is_reset-push}
use Rattle.tcp_streams.proofs.SegmentLemmas.{conflicts_after-push}
use Rattle.tcp_streams.proofs.SegmentLemmas.{byte_from-is, byte_from-none, bytes_from-is, drop-bytes_from}
use Rattle.tcp_streams.proofs.SegmentLemmas.{length-bytes_from, byte_at-past, clashes_same}
use Rattle.tcp_streams.proofs.CountLemmas.{count_from-same}
use Rattle.tcp_streams.proofs.GapLemmas.{gap_count, gaps_end}
use Rattle.tcp_streams.proofs.SparseLemmas.{available_bounds, consumed_byte, consumed_end, not_missing_before}
use Rattle.tcp_streams.proofs.SparseLemmas.{first_missing, first_gap_start-missing}

-- ---- the bytes that are available

none_at_gap : (taken : ℕ) (bytes : List ℕ) (gaps : List Gap) → AreGapsIn taken (taken + length bytes) gaps
    → byte_in (sparse taken bytes gaps) (first_gap_start gaps (taken + length bytes)) ≡ None
none_at_gap taken bytes [] o = byte_from-none taken bytes (taken + length bytes) (omega arith)
none_at_gap taken bytes (g ∷ gaps) o = rw (first_gap_start-missing taken (taken + length bytes) g gaps o)

module _ (held : Sparse) (sound : IsSparse held) where
  pub available_size : length (available_in held) ≡ available_end held - held.taken
  available_size = simp length-take (omega (arith, (available_bounds held sound).0, (available_bounds held sound).1))

  pub byte_available : (i : ℕ) → i < length (available_in held)
      → byte_in held (held.taken + i) ≡ Some (get_or (available_in held) i 0)
  byte_available i h =
      let size = available_size in
      let bounds = available_bounds held sound in
      let missing = first_missing held.taken (held_end held) held.gaps (held.taken + i) sound.gaps (omega arith) in
      let here = byte_from-is held.taken held.bytes (held.taken + i) i refl (omega arith) in
      let short : i < available_end held - held.taken = omega arith in
      rw (missing, here, get_or-take (available_end held - held.taken) held.bytes i 0 short)

  byte_missing : byte_in held (held.taken + length (available_in held)) ≡ None
  byte_missing =
      let at : held.taken + length (available_in held) ≡ available_end held =
      omega (arith, available_size, (available_bounds held sound).0) in
      rw at (none_at_gap held.taken held.bytes held.gaps sound.gaps)

module _ (buf : Contents) (ss : List Placed) (sound : IsSparse buf.held) (shows : Shows buf ss) where
  there : (i : ℕ) → i < buf.held.taken → IsSome (byte_at ss (0 + i))
  there i h = shows.before (0 + i) (omega arith)

  text_parts : bytes_from (byte_at ss) (0 + buf.held.taken) (length buf.held.bytes) ≡ available_in buf.held
  text_parts =
      let size = available_size buf.held sound in
      let bounds = available_bounds buf.held sound in
      bytes_from-is (byte_at ss) (0 + buf.held.taken) (length buf.held.bytes) (available_in buf.held)
      (λ i h. ap (byte_at ss) (omega arith) ∙ sym (shows.held (buf.held.taken + i) (omega arith))
      ∙ byte_available buf.held sound i h)
      (ap (byte_at ss) (omega arith) ∙ sym (shows.held (buf.held.taken + length (available_in buf.held)) (omega arith))
      ∙ byte_missing buf.held sound)
      (omega arith)

  pub shows_text : drop buf.held.taken (text_of ss) ≡ available_in buf.held
  shows_text = rw shows.last (drop-bytes_from (byte_at ss) 0 buf.held.taken (length buf.held.bytes) there ∙ text_parts)

  pub shows_length : length (text_of ss) ≡ available_end buf.held
  shows_length =
      let all = length-bytes_from (byte_at ss) 0 buf.held.taken (length buf.held.bytes) there in
      let all = rw text_parts at all in
      rw shows.last (omega (arith, all, available_size buf.held sound, (available_bounds buf.held sound).0))

  pub shows_next : next_position ss ≡ next_in buf
  shows_next = rw (shows_length, shows.fin)

  pub shows_placed : (s : Segment) → placed buf.start buf.held.taken ss s ≡ placed_in buf s
  shows_placed s = rw shows_next

  pub shows_refusal : (s : Placed) → refusal_of buf.window buf.held.taken ss s ≡ refusal_in buf s
  shows_refusal s = rw (shows.fin, shows.last, shows.reset)

  pub shows_conflicts : (s : Placed) → buf.held.taken ≤ s.position
      → clashes (byte_in buf.held) s.position s.bytes ≡ conflicts_with ss s
  shows_conflicts s h = clashes_same (byte_in buf.held) (byte_at ss) s.position s.bytes
      (λ i l. ap (λ (o : Option ℕ). differs o (get_or s.bytes i 0)) (shows.held (s.position + i) (omega arith)))

finished_test : (o : Option ℕ) (n : ℕ) → IsTrue (option_eq nat_eq o (Some n)) ↔ (o ≡ Some n)
finished_test None n = grind (arith, nat_tests)
finished_test (Some m) n = grind (arith, nat_tests)

-- ---- one more segment

fin_after : (fin : Option ℕ) (last : ℕ) (s : Placed) → fin_refusal fin last s ≡ None
    → cond s.fin (Some (end_of s)) fin ≡ option_or fin (cond s.fin (Some (end_of s)) None)
fin_after fin last s h = grind (arith, nat_tests)

pub not_refused : (e last : ℕ) (fin : Option ℕ) (reset : Bool) (s : Placed) → refusal_by e fin last reset s ≡ None
    → (end_of s ≤ e) × (fin_refusal fin last s ≡ None) × (reset ≡ false)
not_refused e last fin reset s h = grind (arith, nat_tests)

pub some_or : {X : Type 0} (o q : Option X) → IsSome o → IsSome (option_or o q)
some_or None q h = cc
some_or (Some x) q h = h

pub shows_accept : (old new : Contents) (ss : List Placed) (s : Placed) (number : ℕ) (syn : Bool)
    → IsSparse old.held → Shows old ss → Accepts old new s number syn → refusal_in old s ≡ None → old.held.taken ≤ s.position
    → Shows new (ss ++ s ∷ [])
shows_accept old new ss s number syn sound shows accepts none after =
    let fine = not_refused _ _ _ _ s none in
    let fin = fin_after old.fin (held_end old.held) s fine.1 in
    record {
      before = λ p h. rw (byte_at-push ss s p)
          (some_or (byte_at ss p) _ (shows.before p (omega (arith, accepts.adds.taken))));
      held = λ p h.
          let low : old.held.taken ≤ p = omega (arith, accepts.adds.taken) in
          rw (accepts.adds.held p low, byte_at-push ss s p, shows.held p low);
      last = rw (last_end-push ss s, shows.last) (sym accepts.adds.last);
      fin = rw (accepts.fin, fin_of-push ss s, ← shows.fin) fin;
      reset = rw (accepts.reset, is_reset-push ss s, shows.reset);
      conflicts = accepts.conflicts (conflicts_of ss) shows.conflicts
          ∙ rw (shows_conflicts old ss sound shows s after, conflicts_after-push [] ss s);
    }

-- ---- bytes are consumed

pub shows_consume : (old new : Contents) (ss : List Placed) (count : ℕ) → IsSparse old.held
    → old.held.taken + count ≤ available_end old.held
    → new ≡ record old { held = sparse (old.held.taken + count) (drop count old.held.bytes) old.held.gaps }
    → Shows old ss → Shows new ss
shows_consume old new ss count sound few is shows = rw is record {
  before = λ p h. elim (cases_lt p old.held.taken) [
    | inl low ↦ shows.before p low
    | inr high ↦
        let size = available_size old.held sound in
        let at : old.held.taken + (p - old.held.taken) ≡ p = omega arith in
        let there = byte_available old.held sound (p - old.held.taken) (omega arith) in
        let there = rw at at there in
        let same = shows.held p high in rw (← same, there)
  ];
  held = λ p h. consumed_byte old.held count sound few p h ∙ shows.held p (omega arith);
  last = shows.last ∙ sym (consumed_end old.held count sound few);
  fin = shows.fin;
  reset = shows.reset;
  conflicts = shows.conflicts;
}

-- what is taken is a prefix of the text
pub taken_in_text : (buf : Contents) (ss : List Placed) → Shows buf ss → buf.held.taken ≤ length (text_of ss)
taken_in_text buf ss shows =
    let all = length-bytes_from (byte_at ss) 0 buf.held.taken (length buf.held.bytes)
    (λ i h. shows.before (0 + i) (omega arith)) in
    rw shows.last (omega (arith, all))

-- ---- the first gap

first_of : {X : Type 0} (xs : List X) (x : X) → slice_get xs 0 ≡ Some x → xs ≡ x ∷ drop 1 xs
first_of [] x h = cc
first_of (y ∷ xs) x h = cc

no_first : {X : Type 0} (xs : List X) → slice_get xs 0 ≡ None → xs ≡ []
no_first [] h = refl
no_first (y ∷ xs) h = cc

gap_in : (from to : ℕ) (g : Gap) (gs : List Gap) (p : ℕ) → AreGapsIn from to (g ∷ gs) → g.start ≤ p → p < g.end
    → is_missing (g ∷ gs) p ≡ true
gap_in from to g gs p o low high = grind (arith, nat_tests)

gap_past : (from to : ℕ) (g : Gap) (gs : List Gap) → AreGapsIn from to (g ∷ gs) → is_missing (g ∷ gs) g.end ≡ false
gap_past from to g gs o =
    let rest = not_missing_before (g.end + 1) to gs g.end o.2 (omega arith) in grind (arith, nat_tests)

module _ (buf : Contents) (ss : List Placed) (sound : IsSparse buf.held) (shows : Shows buf ss) where
  pub shows_gap : (g : Gap) → slice_get buf.held.gaps 0 ≡ Some g → IsFirstGap ss g
  shows_gap g is =
      let gaps_are = first_of buf.held.gaps g is in
      let o = rw gaps_are at sound.gaps in
      let length_is = shows_length buf ss sound shows in
      let high = gaps_end (g.end + 1) (held_end buf.held) (drop 1 buf.held.gaps) o.2 in record {
        start = rw length_is (rw gaps_are refl);
        order = o.1;
        missing = λ p low below.
            sym (shows.held p (omega (arith, o.0)))
            ∙ rw (gaps_are, gap_in buf.held.taken (held_end buf.held) g (drop 1 buf.held.gaps) p o low below);
        end_held =
            let here = shows.held g.end (omega (arith, o.0, o.1)) in
            rw (
              ← here,
              gaps_are,
              gap_past buf.held.taken (held_end buf.held) g (drop 1 buf.held.gaps) o,
              byte_from-is buf.held.taken buf.held.bytes g.end (g.end - buf.held.taken) (omega (arith, o.0, o.1)) (omega (arith, o.0, o.1)),
            );
      }

  pub shows_no_gap : slice_get buf.held.gaps 0 ≡ None → (p : ℕ) → length (text_of ss) ≤ p → byte_at ss p ≡ None
  shows_no_gap is p h =
      let gaps_are = no_first buf.held.gaps is in
      let length_is : length (text_of ss) ≡ held_end buf.held = shows_length buf ss sound shows ∙ rw gaps_are refl in
      byte_at-past ss p (omega (arith, shows.last))

  pub shows_finished : IsTrue (option_eq nat_eq buf.fin (Some (available_end buf.held)))
      ↔ (fin_of ss ≡ Some (length (text_of ss)))
  shows_finished = rw (shows_length buf ss sound shows, ← shows.fin) (finished_test buf.fin (available_end buf.held))

pub next_bounds : (buf : Contents) → IsSparse buf.held → (buf.held.taken ≤ next_in buf) × (next_in buf ≤ 2 ^ 63 + 1)
next_bounds buf sound =
    let bounds = available_bounds buf.held sound in
    let short = sound.short in grind (arith, nat_tests)

pub few_available : (held : Sparse) (n : ℕ) → IsSparse held → n ≤ length (available_in held)
    → held.taken + n ≤ available_end held
few_available held n sound few =
    omega (arith, few, available_size held sound, (available_bounds held sound).0)

pub shows_gap_result : (buf : Contents) (ss : List Placed) → IsSparse buf.held → Shows buf ss
    → (r : Option Gap) → r ≡ slice_get buf.held.gaps 0 → IfSome r (IsFirstGap ss)
shows_gap_result buf ss sound shows None is = tt
shows_gap_result buf ss sound shows (Some g) is = shows_gap buf ss sound shows g (sym is)

pub shows_no_gap_result : (buf : Contents) (ss : List Placed) → IsSparse buf.held → Shows buf ss
    → (r : Option Gap) → r ≡ slice_get buf.held.gaps 0
    → IfNone r ((p : ℕ) → length (text_of ss) ≤ p → byte_at ss p ≡ None)
shows_no_gap_result buf ss sound shows None is = shows_no_gap buf ss sound shows (sym is)
shows_no_gap_result buf ss sound shows (Some g) is = tt

-- ---- a segment is added

pub placed_after : (d : Distance) (next taken : ℕ) (a : Segment) → taken ≤ next
    → taken ≤ (placed_at d next taken a).position
placed_after (After n) next taken a h = omega arith
placed_after (Before n) next taken a h = omega arith

pub placed_low : (buf : Contents) (a : Segment) → IsSound buf → buf.held.taken ≤ (placed_in buf a).position
placed_low buf a sound =
    placed_after (distance_from (next_in buf) (start_number buf.start a.number a.flags) a) (next_in buf)
    buf.held.taken a (next_bounds buf sound.sparse).0

pub located_after : (buf : Contents) (a : Segment) (p : Location) (rest : List ℕ) → IsSound buf
    → IsLocated p rest (placed_in buf a) → buf.held.taken ≤ p.position
located_after buf a p rest sound located = rw located.position (placed_low buf a sound)

pub located_within : (buf : Contents) (a : Segment) (p : Location) (rest : List ℕ)
    → IsLocated p rest (placed_in buf a) → refusal_in buf (placed_in buf a) ≡ None
    → p.position + length rest ≤ window_end buf.window buf.held.taken
located_within buf a p rest located none =
    let fine = not_refused _ _ _ _ (placed_in buf a) none in
    rw (located.position, located.bytes) fine.0

module _ (buf : Contents) (ss : List Placed) (a : Segment) (sound : IsSound buf) (shows : Shows buf ss) where
  pub placed_same : placed buf.start buf.held.taken ss a ≡ placed_in buf a
  placed_same = shows_placed buf ss sound.sparse shows a

  pub refusal_placed : refusal_of buf.window buf.held.taken ss (placed buf.start buf.held.taken ss a)
      ≡ refusal_in buf (placed_in buf a)
  refusal_placed = rw placed_same (shows_refusal buf ss sound.sparse shows (placed_in buf a))

  pub refused_not : (refused : Refused) → refusal_in buf (placed_in buf a) ≡ Some refused
      → refusal_of buf.window buf.held.taken ss (placed buf.start buf.held.taken ss a) ≡ None → ⊥
  refused_not refused is none = cc (refusal_placed, is, none)

  pub all_held : (let s = placed buf.start buf.held.taken ss a in AllHeld (byte_at ss) s.position (length s.bytes))
      → AllHeld (byte_in buf.held) (placed_in buf a).position (length (placed_in buf a).bytes)
  all_held held p low high =
      let held = rw placed_same at held in
      rw (shows.held p (omega (arith, placed_low buf a sound, low))) (held p low high)

  pub answers_refusal : (X : Type 0) (refused : Refused) → refusal_in buf (placed_in buf a) ≡ Some refused
      → AnswersAdd {X = X} (refusal_of buf.window buf.held.taken ss (placed buf.start buf.held.taken ss a)) (Err refused)
  answers_refusal X refused is = inl (refusal_placed ∙ is)

  pub answers_none : {X : Type 0} (r : Result X Refused) → refusal_in buf (placed_in buf a) ≡ None
      → IfErr r (λ e. e ≡ OutOfMemory)
      → AnswersAdd (refusal_of buf.window buf.held.taken ss (placed buf.start buf.held.taken ss a)) r
  answers_none (Ok x) none memory = refusal_placed ∙ none
  answers_none (Err e) none memory = inr (refusal_placed ∙ none, memory)

module _ (old new : Contents) (ss : List Placed) (a : Segment) (number : ℕ) (syn : Bool) (sound : IsSound old)
    (shows : Shows old ss) where
  pub add_shows : (r : Result Added Refused) → refusal_in old (placed_in old a) ≡ None
      → old.held.taken ≤ (placed_in old a).position → IfOk r (IsAdded old new (placed_in old a) number syn)
      → OnOk r (Shows new (ss ++ placed old.start old.held.taken ss a ∷ []))
  add_shows (Ok added) none after is =
      rw (shows_placed old ss sound.sparse shows a)
      (shows_accept old new ss (placed_in old a) number syn sound.sparse shows is.accepts none after)
  add_shows (Err e) none after is = tt

  pub add_position : (r : Result Added Refused) → IfOk r (IsAdded old new (placed_in old a) number syn)
      → IfOk r (λ added. added.position ≡ (placed old.start old.held.taken ss a).position)
  add_position (Ok added) is = rw (shows_placed old ss sound.sparse shows a) is.position
  add_position (Err e) is = tt

  pub add_conflicts : (r : Result Added Refused) → old.held.taken ≤ (placed_in old a).position
      → IfOk r (IsAdded old new (placed_in old a) number syn)
      → IfOk r (λ added. added.conflicts ≡ counted (conflicts_with ss (placed old.start old.held.taken ss a)))
  add_conflicts (Ok added) after is =
      rw (shows_placed old ss sound.sparse shows a)
      (is.conflicts ∙ ap counted (shows_conflicts old ss sound.sparse shows (placed_in old a) after))
  add_conflicts (Err e) after is = tt

-- what it repeats
pub add_repeated : (buf : Contents) (ss : List Placed) (a : Segment) (p : Location) (rest : List ℕ) → IsSound buf
    → Shows buf ss → IsLocated p rest (placed_in buf a) → p.skipped + length rest ≡ length (bytes_of a)
    → (r : Result Added Refused)
    → IfOk r (λ added. added.repeated ≡ p.skipped
    + count_from (λ q. is_some (byte_in buf.held q)) p.position (length rest))
    → IfOk r (λ added. added.repeated ≡ repeated_of ss a (placed buf.start buf.held.taken ss a))
add_repeated buf ss a p rest sound shows located skipped (Err e) is = tt
add_repeated buf ss a p rest sound shows located skipped (Ok added) is =
    let s = placed_in buf a in
    let low = placed_low buf a sound in
    let is = rw (located.position, located.bytes) at is in
    let skipped = rw located.bytes at skipped in
    let first : length (bytes_of a) - length s.bytes ≡ p.skipped = omega (arith, skipped) in
    let same = count_from-same (λ q. is_some (byte_in buf.held q)) (λ q. is_some (byte_at ss q)) s.position (length s.bytes)
    (λ q from below. ap is_some (shows.held q (omega (arith, low)))) in
    rw (shows_placed buf ss sound.sparse shows a) (rw (first, ← same) is)

module _ (old new : Contents) (s : Placed) (number : ℕ) (syn : Bool) where
  pub add_start : (r : Result Added Refused) → IfOk r (IsAdded old new s number syn)
      → OnOk r (new.start ≡ Some (unwrap_or old.start number))
  add_start (Ok added) is = is.accepts.start
  add_start (Err e) is = tt

  pub add_joined_late : (r : Result Added Refused) → IfOk r (IsAdded old new s number syn)
      → OnOk r (new.joined_late ≡ cond (is_some old.start) old.joined_late (not syn))
  add_joined_late (Ok added) is = is.accepts.joined_late
  add_joined_late (Err e) is = tt

  pub add_same : (r : Result Added Refused) → IfOk r (IsAdded old new s number syn) → OnErr r (new ≡ old)
      → (new.held.taken ≡ old.held.taken) × (new.window ≡ old.window)
  add_same (Ok added) is err = (is.accepts.adds.taken, is.accepts.window)
  add_same (Err e) is err = (ap (λ (b : Contents). b.held.taken) err, ap (λ (b : Contents). b.window) err)

-- ---- memory

pub few_gaps : (held : Sparse) → IsSparse held → 2 * length held.gaps ≤ length held.bytes
few_gaps held sparse = omega (arith, gap_count held.taken (held_end held) held.gaps sparse.gaps)

pub bounded : (buf : Contents) → IsSound buf → IsBounded buf
bounded buf sound = let within = sound.window in (omega (arith, within), few_gaps buf.held sound.sparse)
