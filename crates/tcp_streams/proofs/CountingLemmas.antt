-- What is counted of connections that are followed, with one segment more.
use Rattle.std.proofs.Common.{◌≡◌, ◌∙◌, ℕ, ◌+◌, ◌-◌, ◌^◌, ◌<◌, ◌≤◌, cond, fold, Some, None, List, [], ◌∷◌, ◌++◌, length, min}
use Rattle.std.proofs.Common.{arith, refl, sym, ap}
use Rattle.std.specs.List.{sum_by}
use Rattle.std.proofs.lemmas.Grind.{fold-append}
use Rattle.std.proofs.lemmas.List.{append-nil, append_assoc}
use Rattle.std.proofs.lemmas.List.Sums.{sum_by-append}
use Rattle.tcp_streams.specs.declared.direction.Direction.{Direction}
use Rattle.tcp_streams.specs.declared.direction.Direction.TheVariants.{FromLower, FromHigher}
use Rattle.tcp_streams.specs.declared.follower.FollowedSegment.{FollowedSegment}
use Rattle.tcp_streams.specs.declared.follower.Follower.{Follower}
use Rattle.tcp_streams.specs.declared.gaps.Gap.{Gap}
use Rattle.tcp_streams.specs.declared.stream_counter.StreamCounter.{StreamCounter}
use Rattle.tcp_streams.specs.declared.stream_counter.StreamCounts.{StreamCounts}
use Rattle.tcp_streams.specs.ConnectionStates.{by_direction}
use Rattle.tcp_streams.specs.Counting.{AreLost, AreOutcomes, Arrival, Counts, Course, GivesUpAll, IsFollowedAs}
use Rattle.tcp_streams.specs.Counting.{IsLost, IsOutcome, Outcome, course_arrivals, connection_in, connection_past}
use Rattle.tcp_streams.specs.Counting.{connection_without_all, counter_with, counts_of, counts_with, counts_without, lost_size}
use Rattle.tcp_streams.specs.Following.{Connection, Follows, connection_without, no_connection, side_in}
use Rattle.tcp_streams.specs.PlacedSegments.{text_of}
use Rattle.tcp_streams.proofs.BufLemmas.{taken_in_text}
use Rattle.tcp_streams.proofs.LossLemmas.{lost_bounds}

-- ---- bytes are given up

are_lost_push : (kept : ℕ) (connection : Connection) (direction : Direction) (number : ℕ) (gaps : List Gap) (gap : Gap)
    → AreLost kept connection direction number gaps
    → IsLost kept (connection_without_all connection direction gaps) direction number (Some gap)
    → AreLost kept connection direction number (gaps ++ gap ∷ [])
are_lost_push kept connection direction number [] gap all is = (is, tt)
are_lost_push kept connection direction number (g ∷ gaps) gap all is =
    (all.0, are_lost_push kept (connection_without connection direction (Some g)) direction number gaps gap all.1 is)

lost_size-push : (gaps : List Gap) (gap : Gap) → lost_size (gaps ++ gap ∷ []) ≡ lost_size gaps + (gap.end - gap.start)
lost_size-push gaps gap = omega (arith, sum_by-append (λ (g : Gap). g.end - g.start) gaps (gap ∷ []))

without_all-push : (connection : Connection) (direction : Direction) (gaps : List Gap) (gap : Gap)
    → connection_without_all connection direction (gaps ++ gap ∷ [])
    ≡ connection_without (connection_without_all connection direction gaps) direction (Some gap)
without_all-push connection direction gaps gap =
    fold-append (λ (c : Connection) (g : Gap). connection_without c direction (Some g)) connection gaps (gap ∷ [])

given_up_now : (direction : Direction) (connection : Connection) (gap : Gap)
    → (side_in direction (connection_without connection direction (Some gap))).given_up ≡ gap.end
given_up_now FromLower connection gap = refl
given_up_now FromHigher connection gap = refl

given_up_in_text : (direction : Direction) (follower : Follower) (connection : Connection) → Follows follower connection
    → (side_in direction connection).given_up ≤ length (text_of (side_in direction connection).segments)
given_up_in_text FromLower follower connection follows =
    let side = follows.from_lower in
    omega (arith, side.given_up, taken_in_text follower.from_lower connection.from_lower.segments side.shows)
given_up_in_text FromHigher follower connection follows =
    let side = follows.from_higher in
    omega (arith, side.given_up, taken_in_text follower.from_higher connection.from_higher.segments side.shows)

-- nothing is given up
pub follows_none : (direction : Direction) (follower : Follower) (connection : Connection)
    → Follows follower (connection_without connection direction None) → Follows follower connection
follows_none FromLower follower connection follows = record {
  state = follows.state;
  from_lower = follows.from_lower;
  from_higher = follows.from_higher;
}
follows_none FromHigher follower connection follows = record {
  state = follows.state;
  from_lower = follows.from_lower;
  from_higher = follows.from_higher;
}

-- so many gaps were given up; each ends after the one before, so that there are no more than there are positions
pub record GivenUp (kept : ℕ) (connection : Connection) (direction : Direction) (number : ℕ) (now : Follower)
    (size index : ℕ) (gaps : List Gap) : Type 0 where
  pub lost : AreLost kept connection direction number gaps
  pub follows : Follows now (connection_without_all connection direction gaps)
  pub missing : size ≡ min (lost_size gaps) (2 ^ 64 - 1)
  pub count : index ≤ (side_in direction (connection_without_all connection direction gaps)).given_up
  pub most : 0 < index → (side_in direction (connection_without_all connection direction gaps)).given_up ≤ 2 ^ 63

abbrev pub GivesUp : (kept : ℕ) → Connection → Direction → (number : ℕ) → Follower → (missing count : ℕ) → Type 0
GivesUp kept connection direction number now missing count =
    (gaps : List Gap) × GivenUp kept connection direction number now missing count gaps

module _ (kept : ℕ) (connection : Connection) (direction : Direction) (number : ℕ) where
  pub gives_up_none : (now : Follower) → Follows now connection → GivesUp kept connection direction number now 0 0
  gives_up_none now follows = (
    [],
    record { lost = tt; follows = follows; missing = refl; count = omega arith; most = λ h. absurd (omega (arith, h)) },
  )

  pub gives_up_more : (now new : Follower) (missing count more : ℕ) (gap : Gap)
      → (was : GivesUp kept connection direction number now missing count)
      → IsLost kept (connection_without_all connection direction was.0) direction number (Some gap)
      → Follows new (connection_without (connection_without_all connection direction was.0) direction (Some gap))
      → more ≡ min (missing + (gap.end - gap.start)) (2 ^ 64 - 1)
      → GivesUp kept connection direction number new more (count + 1)
  gives_up_more now new missing count more gap was is follows more_is =
      let gaps = was.0 in
      let given = was.1 in
      let mid = connection_without_all connection direction gaps in
      let side = side_in direction mid in
      let low = given_up_in_text direction now mid given.follows in
      let bounds = lost_bounds _ _ side.start side.segments is.0 number gap is.1 (sym is.2) in
      let now_is = given_up_now direction mid gap in
      let push = without_all-push connection direction gaps gap in (
        gaps ++ gap ∷ [],
        record {
          lost = are_lost_push kept connection direction number gaps gap given.lost is;
          follows = rw push follows;
          missing = omega (arith, more_is, given.missing, lost_size-push gaps gap);
          count = rw (push, now_is) (omega (arith, low, bounds.0, given.count));
          most = rw (push, now_is) (λ h. bounds.1);
        },
      )

  pub gives_up_last : (now new : Follower) (missing count : ℕ)
      → (was : GivesUp kept connection direction number now missing count)
      → IsLost kept (connection_without_all connection direction was.0) direction number None
      → Follows new (connection_without (connection_without_all connection direction was.0) direction None)
      → GivesUpAll kept connection direction (Some number) new missing
  gives_up_last now new missing count was is follows =
      (was.0, (was.1.lost, is), follows_none direction new _ follows, was.1.missing)

  -- so they end
  pub gives_up_ends : (now : Follower) (missing count : ℕ) → GivesUp kept connection direction number now missing count
      → 2 ^ 64 - 1 ≤ count → ⊥
  gives_up_ends now missing count was enough =
      omega (arith, was.1.count, was.1.most (omega (arith, enough)), enough)

-- ---- counts

sum_end : (f : Arrival × Outcome → ℕ) (course : Course) (e : Arrival × Outcome)
    → min (min (sum_by f course) (2 ^ 64 - 1) + f e) (2 ^ 64 - 1) ≡ min (sum_by f (course ++ e ∷ [])) (2 ^ 64 - 1)
sum_end f course e = omega (arith, sum_by-append f course (e ∷ []))

-- counts that are at most so great, with what a segment of a direction does
module _ (counts : StreamCounts) (followed : FollowedSegment) (missing lost : ℕ)
    (is : missing ≡ min lost (2 ^ 64 - 1)) (repeated : counts.repeated ≤ 2 ^ 64 - 1) (gaps : counts.gaps ≤ 2 ^ 64 - 1)
    (missing_most : counts.missing ≤ 2 ^ 64 - 1) (conflicts : counts.conflicts ≤ 2 ^ 64 - 1) where
  abbrev added : Direction → Direction → StreamCounts
  added own its = record {
    repeated = min (counts.repeated + by_direction own its followed.repeated 0) (2 ^ 64 - 1);
    gaps = min (counts.gaps + by_direction own its (cond followed.begins_gap 1 0) 0) (2 ^ 64 - 1);
    missing = min (counts.missing + by_direction own its 0 lost) (2 ^ 64 - 1);
    conflicts = min (counts.conflicts + by_direction own its followed.conflicts.count 0) (2 ^ 64 - 1);
  }

  with_same : counts_with counts followed ≡ record {
    repeated = min (counts.repeated + followed.repeated) (2 ^ 64 - 1);
    gaps = min (counts.gaps + cond followed.begins_gap 1 0) (2 ^ 64 - 1);
    missing = min (counts.missing + 0) (2 ^ 64 - 1);
    conflicts = min (counts.conflicts + followed.conflicts.count) (2 ^ 64 - 1);
  }
  with_same =
      let m : counts.missing ≡ min (counts.missing + 0) (2 ^ 64 - 1) = omega arith in
      λ i. record {
        repeated = min (counts.repeated + followed.repeated) (2 ^ 64 - 1);
        gaps = min (counts.gaps + cond followed.begins_gap 1 0) (2 ^ 64 - 1);
        missing = m i;
        conflicts = min (counts.conflicts + followed.conflicts.count) (2 ^ 64 - 1);
      }

  without_same : counts_without counts missing ≡ record {
    repeated = min (counts.repeated + 0) (2 ^ 64 - 1);
    gaps = min (counts.gaps + 0) (2 ^ 64 - 1);
    missing = min (counts.missing + lost) (2 ^ 64 - 1);
    conflicts = min (counts.conflicts + 0) (2 ^ 64 - 1);
  }
  without_same =
      let r : counts.repeated ≡ min (counts.repeated + 0) (2 ^ 64 - 1) = omega arith in
      let g : counts.gaps ≡ min (counts.gaps + 0) (2 ^ 64 - 1) = omega arith in
      let m : min (counts.missing + missing) (2 ^ 64 - 1) ≡ min (counts.missing + lost) (2 ^ 64 - 1) = omega (arith, is) in
      let c : counts.conflicts ≡ min (counts.conflicts + 0) (2 ^ 64 - 1) = omega arith in
      λ i. record { repeated = r i; gaps = g i; missing = m i; conflicts = c i }

  added_is : (own its : Direction)
      → by_direction own its (counts_with counts followed) (counts_without counts missing) ≡ added own its
  added_is FromLower FromLower = with_same
  added_is FromLower FromHigher = without_same
  added_is FromHigher FromLower = without_same
  added_is FromHigher FromHigher = with_same

counts_of-push : (own : Direction) (course : Course) (a : Arrival) (outcome : Outcome) (missing : ℕ)
    → missing ≡ min (lost_size outcome.lost) (2 ^ 64 - 1)
    → by_direction own a.segment.direction (counts_with (counts_of own course) outcome.followed)
    (counts_without (counts_of own course) missing) ≡ counts_of own (course ++ (a, outcome) ∷ [])
counts_of-push own course a outcome missing is =
    let r = sum_end (λ e. by_direction own e.0.segment.direction e.1.followed.repeated 0) course (a, outcome) in
    let g = sum_end (λ e. by_direction own e.0.segment.direction (cond e.1.followed.begins_gap 1 0) 0) course (a, outcome) in
    let m = sum_end (λ e. by_direction own e.0.segment.direction 0 (lost_size e.1.lost)) course (a, outcome) in
    let c = sum_end (λ e. by_direction own e.0.segment.direction e.1.followed.conflicts.count 0) course (a, outcome) in
    added_is (counts_of own course) outcome.followed missing (lost_size outcome.lost) is (omega arith) (omega arith)
    (omega arith) (omega arith) own a.segment.direction
    ∙ (λ i. record { repeated = r i; gaps = g i; missing = m i; conflicts = c i })

-- ---- segments are counted

outcomes-push : (kept : ℕ) (connection : Connection) (course : Course) (a : Arrival) (outcome : Outcome)
    → AreOutcomes kept connection course
    → IsOutcome kept (fold (connection_past kept) connection course) a outcome
    → AreOutcomes kept connection (course ++ (a, outcome) ∷ [])
outcomes-push kept connection [] a outcome all is = (is, tt)
outcomes-push kept connection (e ∷ course) a outcome all is =
    (all.0, outcomes-push kept (connection_past kept connection e) course a outcome all.1 is)

connection_in-push : (kept : ℕ) (course : Course) (a : Arrival) (outcome : Outcome)
    → connection_in kept (course ++ (a, outcome) ∷ []) ≡ connection_past kept (connection_in kept course) (a, outcome)
connection_in-push kept course a outcome =
    fold-append (connection_past kept) no_connection course ((a, outcome) ∷ [])

arrivals-push : (course : Course) (a : Arrival) (outcome : Outcome)
    → course_arrivals (course ++ (a, outcome) ∷ []) ≡ course_arrivals course ++ a ∷ []
arrivals-push [] a outcome = refl
arrivals-push (e ∷ course) a outcome = ap (λ (xs : List Arrival). e.0 ∷ xs) (arrivals-push course a outcome)

-- one that is followed
pub counts_followed : (kept : ℕ) (old : StreamCounter) (now : Follower) (arrivals : List Arrival) (a : Arrival)
    (was : Follower) (followed : FollowedSegment) (missing : ℕ) → old.follower ≡ Some was → now.window ≡ was.window
    → ((connection : Connection) → Follows was connection
    → IsFollowedAs was.window connection a now followed missing)
    → Counts kept old arrivals
    → Counts kept (counter_with a.segment.direction followed missing (record old { follower = Some now })) (arrivals ++ a ∷ [])
counts_followed kept old now arrivals a was followed missing some window does counted =
    let course = counted.0 in
    let c = counted.3 in
    let at = rw some at c.up_to in
    let here = rw (at.0) at (does (connection_in kept course) at.1) in
    let outcome : Outcome = record { lost = here.0; followed = followed } in
    let same : arrivals ≡ course_arrivals course = counted.2 ∙ rw at.2 (simp append-nil) in (
      course ++ (a, outcome) ∷ [],
      [],
      rw (same, arrivals-push course a outcome, append-nil),
      record {
        outcomes = outcomes-push kept no_connection course a outcome c.outcomes here.1.0;
        up_to = (window ∙ at.0, rw (connection_in-push kept course a outcome) here.1.1, refl);
        from_lower = rw c.from_lower (counts_of-push FromLower course a outcome missing here.1.2);
        from_higher = rw c.from_higher (counts_of-push FromHigher course a outcome missing here.1.2);
      },
    )

-- one that isn't
pub counts_stopped : (kept : ℕ) (old new : StreamCounter) (arrivals rest : List Arrival) → new.follower ≡ None
    → new.from_lower ≡ old.from_lower → new.from_higher ≡ old.from_higher → Counts kept old arrivals
    → Counts kept new (arrivals ++ rest)
counts_stopped kept old new arrivals rest none lower higher counted =
    let c = counted.3 in (
      counted.0,
      counted.1 ++ rest,
      rw counted.2 (simp append_assoc),
      record {
        outcomes = c.outcomes;
        up_to = rw none tt;
        from_lower = lower ∙ c.from_lower;
        from_higher = higher ∙ c.from_higher;
      },
    )
