-- What a segment does in a connection that is followed.
use Rattle.std.proofs.Common.{◌≡◌, ◌∙◌, ℕ, ◌≤◌, true, false, cond, ◌⊎◌, inl, inr, Option, Some, None, List, [], ◌∷◌, ◌++◌, length}
use Rattle.std.proofs.Common.{arith, refl, sym, ap}
use Rattle.std.proofs.lemmas.Bool.Decides.{nat_tests}
use Rattle.std.proofs.lemmas.List.{length-take}
use Rattle.std.specs.Option.{option_map_or}
use Rattle.std.proofs.lemmas.Grind.{fold-append}
use Rattle.tcp_streams.specs.declared.conflicts.Conflicts.{Conflicts}
use Rattle.tcp_streams.specs.declared.gaps.Gap.{Gap}
use Rattle.tcp_streams.specs.declared.refusal.Refused.{Refused}
use Rattle.tcp_streams.specs.declared.connection_state.ConnectionState.{ConnectionState}
use Rattle.tcp_streams.specs.declared.direction.Direction.{Direction}
use Rattle.tcp_streams.specs.declared.direction.Direction.TheVariants.{FromLower, FromHigher}
use Rattle.tcp_streams.specs.declared.follower.FollowedSegment.{FollowedSegment}
use Rattle.tcp_streams.specs.declared.follower.Follower.{Follower}
use Rattle.tcp_streams.specs.declared.refusal.Refused.TheVariants.{OutOfMemory}
use Rattle.tcp_streams.specs.ConnectionStates.{state_after}
use Rattle.tcp_streams.specs.Following.Step.{Comes, GivesUp}
use Rattle.tcp_streams.specs.Losses.{lost_of, with_given_up}
use Rattle.tcp_streams.specs.Segments.{Segment, placed, repeated_of, start_number}
use Rattle.tcp_streams.specs.Refusals.{refusal_of}
use Rattle.tcp_streams.specs.PlacedSegments.{Placed, conflicts_with, text_of}
use Rattle.tcp_streams.specs.SparseBytes.{counted}
use Rattle.tcp_streams.specs.StreamBuf.{Contents, IsGapIn, Shows}
use Rattle.tcp_streams.proofs.BufLemmas.{taken_in_text}
use Rattle.tcp_streams.proofs.LawLemmas.{text_stays}
use Rattle.std.specs.Prelude.{Err, IfOk, IfSome, MatchResult, Ok, OnOk, Result, is_some, not}
use Rattle.tcp_streams.specs.declared.connection_state.Control.{Control}
use Rattle.tcp_streams.specs.Following.{Connection, ConnectionSegment, DoesNothing, Follows, IsCounted, IsFollowed, IsTaken}
use Rattle.tcp_streams.specs.Following.{ShowsSide, Side, Step, begins_anew_by, buf_in, connection_after, connection_of}
use Rattle.tcp_streams.specs.Following.{connection_with, connection_with_counted, connection_with_step, connection_without, control_on, counts}
use Rattle.tcp_streams.specs.Following.{gap_begins, is_of_segment, lost_on, new_gap, no_connection, placed_on, refusal_on, side_in}
use Rattle.tcp_streams.specs.Following.{side_with, side_without, taken_of, with_side}

grows : (ss ts : List Placed) → length (text_of ss) ≤ length (text_of (ss ++ ts))
grows ss ts =
    omega (arith, length-take (length (text_of ss)) (text_of (ss ++ ts)), ap length (text_stays ss ts))

no_begin : (gap : Option Gap) → false ≡ gap_begins gap gap
no_begin None = refl
no_begin (Some gap) = refl

same_gap : (gap : Option Gap) → None ≡ new_gap gap gap
same_gap None = refl
same_gap (Some gap) = grind (arith, nat_tests)

-- a buffer of which all is forgotten but what is kept
module _ (kept : ℕ) (mid : Contents) (side : Side) (was : ShowsSide kept mid side)
    (at : mid.held.taken ≡ taken_of kept side) where
  -- what became available since is kept
  pub kept_with : (new : Contents) (position : ℕ) → new.held.taken ≡ mid.held.taken
      → position ≡ length (text_of side.segments) → new.held.taken ≤ position
  kept_with new position taken is = omega (arith, taken, is, taken_in_text mid side.segments was.shows)

  -- what is lost is given up
  pub lost_same : (first : Option Gap) (number : ℕ) → lost_of mid.window mid.held.taken mid.start side.segments first number
      ≡ lost_on kept side first number
  lost_same first number = rw (was.start, was.window, at) refl

  pub shows_without_lost : (new : Contents) (lost : Option Gap) → Shows new (with_given_up side.segments lost)
      → new.start ≡ mid.start → new.joined_late ≡ mid.joined_late → new.window ≡ mid.window
      → new.held.taken ≡ option_map_or (λ (gap : Gap). gap.end) lost mid.held.taken
      → ShowsSide kept new (side_without side lost)
  shows_without_lost new None shows start joined_late window taken = record {
    shows = shows;
    start = start ∙ was.start;
    joined_late = joined_late ∙ was.joined_late;
    window = window ∙ was.window;
    taken = omega (arith, taken, was.taken);
    given_up = omega (arith, taken, was.given_up);
  }
  shows_without_lost new (Some gap) shows start joined_late window taken = record {
    shows = shows;
    start = start ∙ was.start;
    joined_late = joined_late ∙ was.joined_late;
    window = window ∙ was.window;
    taken = omega (arith, taken);
    given_up = omega (arith, taken);
  }

-- the same, and a segment
module _ (kept : ℕ) (mid : Contents) (side : Side) (s : Segment) (was : ShowsSide kept mid side)
    (at : mid.held.taken ≡ taken_of kept side) where
  placed_same : placed mid.start mid.held.taken side.segments s ≡ placed_on kept side s
  placed_same = rw (was.start, at) refl

  refusal_same : refusal_of mid.window mid.held.taken side.segments
      (placed mid.start mid.held.taken side.segments s) ≡ refusal_on kept side s
  refusal_same = rw (was.start, was.window, at) refl

  -- one that is accepted
  module _ (new : Contents)
      (accepted : Shows new (side.segments ++ placed mid.start mid.held.taken side.segments s ∷ []))
      (none : refusal_of mid.window mid.held.taken side.segments
      (placed mid.start mid.held.taken side.segments s) ≡ None) where
    not_refused : refusal_on kept side s ≡ None
    not_refused = sym refusal_same ∙ none

    pub shows_with : new.start ≡ Some (start_number mid.start s.number s.flags)
        → new.joined_late ≡ cond (is_some mid.start) mid.joined_late (not s.flags.syn) → new.held.taken ≡ mid.held.taken
        → new.window ≡ mid.window → ShowsSide kept new (side_with kept side s)
    shows_with start joined_late taken window = rw not_refused record {
      shows = rw placed_same at accepted;
      start = start ∙ ap (λ (o : Option ℕ). Some (start_number o s.number s.flags)) was.start;
      joined_late = rw (joined_late, was.start, was.joined_late);
      window = window ∙ was.window;
      taken = omega (arith, taken, at, grows side.segments (placed_on kept side s ∷ []));
      given_up = omega (arith, taken, was.given_up);
    }

    pub taken_with : (position : ℕ) (before after : Option Gap) (conflicts : Conflicts) (repeated : ℕ)
        → position ≡ length (text_of side.segments) → IsGapIn side.segments before
        → IsGapIn (side.segments ++ placed mid.start mid.held.taken side.segments s ∷ []) after
        → conflicts ≡ counted (conflicts_with side.segments (placed mid.start mid.held.taken side.segments s))
        → repeated ≡ repeated_of side.segments s (placed mid.start mid.held.taken side.segments s)
        → IsTaken kept side s record {
          begins_anew = false;
          position = position;
          gap = new_gap before after;
          begins_gap = gap_begins before after;
          conflicts = conflicts;
          repeated = repeated;
          refused = None;
        }
    taken_with position before after conflicts repeated position_is before_is after_is conflicts_are repeated_is = record {
      position = position_is;
      gap = (before, after, before_is, rw (not_refused, ← placed_same) after_is, refl, refl);
      conflicts = rw (not_refused, ← placed_same) conflicts_are;
      repeated = rw (not_refused, ← placed_same) repeated_is;
      refused = sym not_refused;
    }

  -- one that is refused
  module _ (refused : Refused) (is : refusal_of mid.window mid.held.taken side.segments
      (placed mid.start mid.held.taken side.segments s) ≡ Some refused) where
    is_refused : refusal_on kept side s ≡ Some refused
    is_refused = sym refusal_same ∙ is

    pub shows_without : (new : Contents) → new ≡ mid → ShowsSide kept new (side_with kept side s)
    shows_without new same = rw (is_refused, same) was

    pub taken_without : (position : ℕ) (before : Option Gap)
        → position ≡ length (text_of side.segments) → IsGapIn side.segments before
        → IsTaken kept side s record {
          begins_anew = false;
          position = position;
          gap = None;
          begins_gap = false;
          conflicts = counted [];
          repeated = 0;
          refused = Some refused;
        }
    taken_without position before position_is before_is = record {
      position = position_is;
      gap = (before, before, before_is, rw is_refused before_is, same_gap before, no_begin before);
      conflicts = rw is_refused refl;
      repeated = rw is_refused refl;
      refused = sym is_refused;
    }

pub of_segment : (refusal : Option Refused) (refused : Refused) → is_of_segment refused ≡ true
    → (refusal ≡ Some refused) ⊎ (refusal ≡ None) × (refused ≡ OutOfMemory) → refusal ≡ Some refused
of_segment refusal refused is (inl same) = same
of_segment refusal refused is (inr memory) = let is = rw memory.1 at is in cc

pub kept_after : (lost : Option Gap) (old new : ℕ) → new ≡ option_map_or (λ (gap : Gap). gap.end) lost old
    → IfSome lost (λ (gap : Gap). new ≤ gap.end)
kept_after None old new is = tt
kept_after (Some gap) old new is = omega (arith, is)

-- ---- both directions

pub follows_with : (window : ℕ) (mid new : Follower) (earlier : Connection) (s : ConnectionSegment)
    (state : ConnectionState) → mid.window ≡ window
    → Follows mid (connection_of earlier s)
    → Follows new (with_side s.direction (connection_of earlier s)
    (side_with mid.window (side_in s.direction (connection_of earlier s)) s.segment))
    → state ≡ state_after mid.state s.direction (control_on s)
    → Follows (record new { state = state }) (connection_with_counted window earlier s)
follows_with window mid new earlier s state same since taken is =
    let taken = rw same at taken in
    record {
      state = is ∙ ap (λ (c : ConnectionState). state_after c s.direction (control_on s)) since.state;
      from_lower = taken.from_lower;
      from_higher = taken.from_higher;
    }

-- a segment comes
pub follows_left_out : (window : ℕ) (new : Follower) (earlier : Connection) (s : ConnectionSegment)
    → counts (control_on s) ≡ false → Follows new earlier → Follows new (connection_with window earlier s)
follows_left_out window new earlier s does follows = rw does follows

pub follows_if_ok : {X E : Type 0} (r : Result X E) (window : ℕ) (new : Follower) (earlier : Connection)
    (s : ConnectionSegment) → counts (control_on s) ≡ true
    → OnOk r (Follows new (connection_with_counted window earlier s))
    → OnOk r (Follows new (connection_with window earlier s))
follows_if_ok r window new earlier s does follows = rw does follows

pub follows_after : {X E : Type 0} (r : Result X E) (window : ℕ) (new : Follower) (earlier : List Step)
    (s : ConnectionSegment) → OnOk r (Follows new (connection_with window (connection_after window earlier) s))
    → OnOk r (Follows new (connection_after window (earlier ++ Comes s ∷ [])))
follows_after r window new earlier s follows =
    rw (fold-append (connection_with_step window) no_connection earlier (Comes s ∷ [])) follows

pub followed_if_ok : {E : Type 0} (r : Result FollowedSegment E) (kept : ℕ) (earlier : Connection) (s : ConnectionSegment)
    → counts (control_on s) ≡ true → IfOk r (IsCounted kept earlier s) → IfOk r (IsFollowed kept earlier s)
followed_if_ok (Ok x) kept earlier s does is = record { counted = λ h. is; left_out = λ h. cc (does, h) }
followed_if_ok (Err e) kept earlier s does is = tt

pub followed_left_out : (x : FollowedSegment) (kept : ℕ) (earlier : Connection) (s : ConnectionSegment)
    → counts (control_on s) ≡ false → DoesNothing (side_in s.direction earlier) x → IsFollowed kept earlier s x
followed_left_out x kept earlier s does is = record { counted = λ h. cc (does, h); left_out = λ h. is }

-- the state says nothing of the bytes
pub kept_with_state : (direction : Direction) (new : Follower) (state : ConnectionState) (n : ℕ)
    → (buf_in direction new).held.taken ≤ n → (buf_in direction (record new { state = state })).held.taken ≤ n
kept_with_state FromLower new state n h = h
kept_with_state FromHigher new state n h = h

pub anew_same : (state state' : ConnectionState) (start start' : Option ℕ) (number : ℕ) (control : Control)
    → state ≡ state' → start ≡ start' → begins_anew_by state start number control ≡ begins_anew_by state' start' number control
anew_same state state' start start' number control a b = rw (a, b) refl

-- a segment is taken in one of them
pub takes_lower : {E : Type 0} (follower : Follower) (buf : Contents) (connection : Connection) (s : Segment)
    (r : Result FollowedSegment E) → Follows follower connection
    → MatchResult r (λ taken. ShowsSide follower.window buf (side_with follower.window connection.from_lower s)
    × IsTaken follower.window connection.from_lower s taken × (buf.held.taken ≤ taken.position))
    (λ e. ShowsSide follower.window buf connection.from_lower)
    → MatchResult r (λ taken. Follows (record follower { from_lower = buf })
    (with_side FromLower connection (side_with follower.window connection.from_lower s))
    × IsTaken follower.window connection.from_lower s taken × (buf.held.taken ≤ taken.position))
    (λ e. Follows (record follower { from_lower = buf }) connection)
takes_lower follower buf connection s (Ok taken) was h =
    (record { state = was.state; from_lower = h.0; from_higher = was.from_higher }, h.1, h.2)
takes_lower follower buf connection s (Err e) was h =
    record { state = was.state; from_lower = h; from_higher = was.from_higher }

pub takes_higher : {E : Type 0} (follower : Follower) (buf : Contents) (connection : Connection) (s : Segment)
    (r : Result FollowedSegment E) → Follows follower connection
    → MatchResult r (λ taken. ShowsSide follower.window buf (side_with follower.window connection.from_higher s)
    × IsTaken follower.window connection.from_higher s taken × (buf.held.taken ≤ taken.position))
    (λ e. ShowsSide follower.window buf connection.from_higher)
    → MatchResult r (λ taken. Follows (record follower { from_higher = buf })
    (with_side FromHigher connection (side_with follower.window connection.from_higher s))
    × IsTaken follower.window connection.from_higher s taken × (buf.held.taken ≤ taken.position))
    (λ e. Follows (record follower { from_higher = buf }) connection)
takes_higher follower buf connection s (Ok taken) was h =
    (record { state = was.state; from_lower = was.from_lower; from_higher = h.0 }, h.1, h.2)
takes_higher follower buf connection s (Err e) was h =
    record { state = was.state; from_lower = was.from_lower; from_higher = h }

pub follows_without : (window : ℕ) (new : Follower) (earlier : List Step) (direction : Direction) (lost : Option Gap)
    → Follows new (connection_without (connection_after window earlier) direction lost)
    → Follows new (connection_after window (earlier ++ GivesUp direction lost ∷ []))
follows_without window new earlier direction lost follows =
    rw (fold-append (connection_with_step window) no_connection earlier (GivesUp direction lost ∷ [])) follows
