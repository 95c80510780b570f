-- What stays where bytes are given up.
use Rattle.std.proofs.Common.{◌≡◌, ◌∙◌, ℕ, zero, suc, ◌+◌, ◌-◌, ◌<◌, ◌≤◌, inl, inr, Option, Some, None, List, [], ◌∷◌, ◌++◌}
use Rattle.std.proofs.Common.{length, arith, refl}
use Rattle.std.proofs.lemmas.Bool.{cases_lt}
use Rattle.std.proofs.lemmas.Bool.Decides.{nat_tests}
use Rattle.std.proofs.lemmas.List.{length-replicate}
use Rattle.std.specs.Prelude.{IsSome}
use Rattle.std.specs.Option.{option_or}
use Rattle.tcp_streams.specs.declared.gaps.Gap.{Gap}
use Rattle.tcp_streams.specs.Following.{side_without, taken_of}
use Rattle.tcp_streams.specs.Laws.{BytesStay, LateBytesAreLeftOut}
use Rattle.tcp_streams.specs.Losses.{given_up}
use Rattle.tcp_streams.specs.Segments.{distance_from, next_position, start_number}
use Rattle.tcp_streams.specs.PlacedSegments.{Placed, byte_at, bytes_from, last_end, text_of, with_byte}
use Rattle.tcp_streams.proofs.BufLemmas.{placed_after, some_or}
use Rattle.tcp_streams.proofs.LossLemmas.{zeros}
use Rattle.tcp_streams.proofs.SegmentLemmas.{byte_at-push, byte_from-here, last_end-push, length-bytes_from}

same_or : {X : Type 0} (o q : Option X) → IsSome o → option_or o q ≡ o
same_or None q h = cc
same_or (Some x) q h = refl

some_last : {X : Type 0} (o : Option X) {q : Option X} {x : X} → q ≡ Some x → IsSome (option_or o q)
some_last None is = rw is
some_last (Some y) is = refl

pub bytes_stay : BytesStay
bytes_stay ss gap p here = byte_at-push ss (given_up gap) p ∙ same_or (byte_at ss p) _ here

-- ---- bytes that come late

there_step : (f : ℕ → Option ℕ) (p n i : ℕ) (o : Option ℕ) → f p ≡ o
    → i < length (with_byte o (bytes_from f (p + 1) n))
    → ((j : ℕ) → j < length (bytes_from f (p + 1) n) → IsSome (f (p + 1 + j))) → IsSome (f (p + i))
there_step f p n i None is h rest = absurd (omega arith)
there_step f p n zero (Some b) is h rest = let at : p + 0 ≡ p = omega arith in rw (at, is)
there_step f p n (suc j) (Some b) is h rest =
    let at : p + 1 + j ≡ p + suc j = omega arith in
    rw at at (rest j (omega arith))

there_in : (f : ℕ → Option ℕ) (p n i : ℕ) → i < length (bytes_from f p n) → IsSome (f (p + i))
there_in f p zero i h = absurd (omega arith)
there_in f p (suc n) i h = there_step f p n i (f p) refl h (there_in f (p + 1) n)

module _ (ss : List Placed) (gap : Gap) (start : gap.start ≡ length (text_of ss)) (some : gap.start < gap.end) where
  size : length (zeros gap) ≡ gap.end - gap.start
  size = simp length-replicate

  there_now : (i : ℕ) → i < gap.end → IsSome (byte_at (ss ++ given_up gap ∷ []) (0 + i))
  there_now i h =
      let at : 0 + i ≡ i = omega arith in
      rw (at, byte_at-push ss (given_up gap) i) (elim (cases_lt i gap.start) [
        | inl low ↦
            some_or (byte_at ss i) _ (rw at at (there_in (byte_at ss) 0 (last_end ss) i (omega (arith, low, start))))
        | inr high ↦
            some_last (byte_at ss i) (byte_from-here gap.start (zeros gap) i high (omega (arith, size)))
      ])

  -- the text ends after them
  longer : gap.end ≤ length (text_of (ss ++ given_up gap ∷ []))
  longer =
      let last : gap.end ≤ last_end (ss ++ given_up gap ∷ []) =
      rw (last_end-push ss (given_up gap), size) (grind (arith, nat_tests)) in
      let all = length-bytes_from (byte_at (ss ++ given_up gap ∷ [])) 0 gap.end
      (last_end (ss ++ given_up gap ∷ []) - gap.end) there_now in
      let parts : gap.end + (last_end (ss ++ given_up gap ∷ []) - gap.end) ≡ last_end (ss ++ given_up gap ∷ []) =
      omega (arith, last) in
      let all = rw parts at all in omega (arith, all)

pub late_bytes_are_left_out : LateBytesAreLeftOut
late_bytes_are_left_out kept side gap s start some =
    let after = side_without side (Some gap) in
    let longer = longer side.segments gap start some in
    let low = placed_after (distance_from (next_position after.segments) (start_number after.start s.number s.flags) s)
    (next_position after.segments) (taken_of kept after) s (omega (arith, longer)) in
    omega (arith, low)
