-- A run that translates bytes to bytes, call by call.
use Rattle.std.proofs.Common.{◌≡◌, sym, subst, ℕ, ◌+◌, ◌*◌, ◌<◌, ◌≤◌, arith, Bool, true, false, List, [], ◌∷◌, ◌++◌}
use Rattle.std.proofs.Common.{length, length-append, Option, Some, None, Result, append-nil, refl}
use Rattle.device_runs.specs.declared.fault.Fault.{Fault}
use Rattle.device_runs.specs.declared.fault.Fault.TheVariants.{ReadFailed}
use Rattle.device_runs.specs.Calls.{Call, Reads, Writes, bytes_read}
use Rattle.device_runs.specs.Endings.{Stopped, OutOfMemory, OutOfReads, Refused, ending_by}
use Rattle.device_runs.specs.Runs.{Task, EachFollows, Follows}
use Rattle.device_runs.specs.Writes.{Written, Stops}
use Rattle.std.proofs.lemmas.List.Concat.{flat_map-append}
use Rattle.device_runs.proofs.CallLemmas.{Makes-append}
use Rattle.device_runs.proofs.Going.{Going, going_start, going_chunk, going_end, going_write, going_stops, going_unread}
use Rattle.device_runs.proofs.Going.{goes_nothing}
use Rattle.captures.specs.declared.limits.TheConstants.{INPUT_CAPACITY}
use Rattle.captures.specs.declared.translation.refusal.Refusal.{Refusal}
use Rattle.captures.specs.Translations.{Begins, RunEnds, Fills, IsDueBy, Translates, Finishes}

module _ (task : Task Refusal) {D : Type 0} (transition : D → Call → D → Type 0) (read written : List ℕ)
    (reported : Bool) (count : ℕ) (old mid : D) (g : Going task transition read written reported count old mid)
    (text : List ℕ) (full : task.full reported read text) where
  -- all that is to be written is determined by what was read so far,
  fills_so_far : Fills task transition old mid
  fills_so_far = record {
    calls = g.calls;
    made = g.made;
    reported = reported;
    text = text;
    full = grind arith;
  }

  -- where a read fails then, too,
  fills_unread : (new : D) → transition mid (Reads None) new → Fills task transition old new
  fills_unread new call =
      let last = Reads None ∷ [] in
      let gave : bytes_read (g.calls ++ last) ≡ read =
      grind (arith, flat_map-append, append-nil) in
      record {
        calls = g.calls ++ last;
        made = Makes-append transition old mid new g.calls last g.made (new, call, refl);
        reported = reported;
        text = text;
        full = grind arith;
      }

  -- and where a write stops
  fills_stopped : (new : D) (bytes : List ℕ) (fault : Fault) → Stops transition fault mid bytes new
      → Fills task transition old new
  fills_stopped new bytes fault s =
      let before = going_write task transition read written reported count old mid s.mid g s.prefix
      s.before in
      let last = Writes s.offered s.taken ∷ [] in
      let gave : bytes_read (before.calls ++ last) ≡ read =
      grind (arith, flat_map-append, append-nil) in
      record {
        calls = before.calls ++ last;
        made = Makes-append transition old s.mid new before.calls last before.made
            (new, s.stop, refl);
        reported = reported;
        text = text;
        full = grind arith;
      }

module _ (task : Task Refusal) {D : Type 0} (transition : D → Call → D → Type 0) where
  -- what this many reads gave is translated, and this is held
  pub record Translating (shown : List ℕ → List ℕ → List ℕ → Type 0) (count : ℕ) (old new : D)
      (held : List ℕ) : Type 0 where
    pub came : List ℕ
    pub text : List ℕ
    pub going : Going task transition came text false count old new
    pub due : task.due came text
    pub shows : shown held came text
    pub few : length came ≤ INPUT_CAPACITY * count

  -- and this is all that is to be written of it
  pub record Translated (shown : List ℕ → List ℕ → List ℕ → Type 0) (count : ℕ) (old new : D)
      (held : List ℕ) : Type 0 where
    pub translating : Translating shown count old new held
    pub full : task.full false translating.came translating.text

  -- the header is written,
  pub translating_start : (shown : List ℕ → List ℕ → List ℕ → Type 0) (old new : D)
      (header : List ℕ) → Begins task shown header → Written transition old header new
      → Translated shown 0 old new []
  translating_start shown old new header begins written = record {
    translating = record {
      came = [];
      text = header;
      going = going_write task transition [] [] false 0 old old new
          (going_start task transition old) header written;
      due = begins.due;
      shows = begins.shows;
      few = omega arith;
    };
    full = begins.full;
  }

  -- or a write stops before
  pub header_stops : (shown : List ℕ → List ℕ → List ℕ → Type 0) (limit : ℕ) (old new : D)
      (header : List ℕ) → Begins task shown header
      → (fault : Fault) → Stops transition fault old header new
      → RunEnds task transition limit old new (Stopped fault)
  header_stops shown limit old new header begins fault stops = record {
    goes = going_stops task transition limit [] [] false 0 old old new
        (going_start task transition old) (omega arith) header fault begins.full stops;
    fills = fills_stopped task transition [] [] false 0 old old (going_start task transition old)
        header begins.full new header fault stops;
  }

  module _ {shown : List ℕ → List ℕ → List ℕ → Type 0} {n : ℕ} {old mid : D}
      {held : List ℕ} (t : Translating shown n old mid held) {limit most : ℕ} (fits : n < limit)
      (enough : INPUT_CAPACITY * limit ≤ most) where
    module _ {later : D} {chunk : List ℕ} (call : transition mid (Reads (Some chunk)) later)
        (size : length chunk ≤ INPUT_CAPACITY) (room : task.room ≡ INPUT_CAPACITY)
        (some : 0 < length chunk) {shown' : List ℕ → List ℕ → List ℕ → Type 0}
        {bytes held' text : List ℕ} (prefix : bytes ≡ held ++ chunk) {refusal : Option Refusal}
        (reported : (held chunk read written : List ℕ) → shown held read written
        → bytes ≡ held ++ chunk → length (read ++ chunk) ≤ most
        → Translates task shown' held' (read ++ chunk) (written ++ text) refusal) where
      requested : Going task transition (t.came ++ chunk) t.text false (n + 1) old later
      requested = going_chunk task transition t.came t.text n old mid later t.going t.due chunk call
          (subst (λ r. length chunk ≤ r) (sym room) size) some

      translates : Translates task shown' held' (t.came ++ chunk) (t.text ++ text) refusal
      translates = let few = t.few in reported held chunk t.came t.text t.shows prefix
          (omega (arith, length-append t.came chunk))

      -- a chunk is read, and what is made of it is written,
      pub translating_more : {new : D} → refusal ≡ None → Written transition later text new
          → Translated shown' (n + 1) old new held'
      translating_more {new} is written = let goes_on = rw is at translates in record {
        translating = grind (arith, going_write, requested, length-append);
        full = translates.full;
      }

      -- or a write stops before,
      pub translating_stops : {new : D} (fault : Fault) → Stops transition fault later text new
          → RunEnds task transition limit old new (Stopped fault)
      translating_stops {new} fault stops = record {
        goes = going_stops task transition limit (t.came ++ chunk) t.text false
            (n + 1) old later new requested (omega arith) text fault translates.full stops;
        fills = fills_stopped task transition (t.came ++ chunk) t.text false (n + 1) old later requested
            (t.text ++ text) translates.full new text fault stops;
      }

      -- or it is refused
      pub translating_refused : {new : D} (reason : Refusal) → refusal ≡ Some reason
          → Written transition later text new → RunEnds task transition limit old new (Refused reason)
      translating_refused {new} reason is written =
          let refused = rw is at translates in
          let done = going_write task transition (t.came ++ chunk) t.text false
          (n + 1) old later new requested text written in
          grind arith

    -- a read fails
    pub translating_fails : {new : D} → task.full false t.came t.text
        → transition mid (Reads None) new → RunEnds task transition limit old new (Stopped ReadFailed)
    translating_fails {new} full call = record {
      goes = going_unread task transition limit t.came t.text n old mid new t.going t.due call fits;
      fills = fills_unread task transition t.came t.text false n old mid t.going t.text full new call;
    }

    -- the end is reported
    module _ {later : D} {chunk : List ℕ} (none : chunk ≡ [])
        (call : transition mid (Reads (Some chunk)) later) {held' text : List ℕ}
        (same : held' ≡ held) {result : Result Unit Refusal}
        (reported : (read written : List ℕ) → shown held' read written → length read ≤ most
        → Finishes task read (written ++ text) result) where
      ended : Going task transition t.came t.text true (n + 1) old later
      ended = going_end task transition t.came t.text n old mid later t.going t.due chunk none call

      finishes : Finishes task t.came (t.text ++ text) result
      finishes = let few = t.few in grind arith

      pub finish_stops : {new : D} (fault : Fault) → Stops transition fault later text new
          → RunEnds task transition limit old new (Stopped fault)
      finish_stops {new} fault stops = record {
        goes = going_stops task transition limit t.came t.text true (n + 1) old later new ended
            (omega arith) text fault finishes.full stops;
        fills = fills_stopped task transition t.came t.text true (n + 1) old later ended
            (t.text ++ text) finishes.full new text fault stops;
      }

      pub finish_ends : {new : D} → Written transition later text new
          → RunEnds task transition limit old new (ending_by Refused result)
      finish_ends {new} written =
          let done = going_write task transition t.came t.text true
          (n + 1) old later new ended text written in
          grind arith

  -- as many reads as may be are made
  pub translating_all : (shown : List ℕ → List ℕ → List ℕ → Type 0) (limit : ℕ) (old new : D)
      (held : List ℕ) → Translated shown limit old new held
      → RunEnds task transition limit old new OutOfReads
  translating_all shown limit old new held done =
      let t = done.translating in
      grind arith

-- where the same is due by another task, calls by the one are calls by the other
module _ {task task' : Task Refusal} (same : IsDueBy task task') where
  follows_by : (before : List Call) (call : Call) → Follows task before call
      → Follows task' before call
  follows_by before (Reads given) follows = (
    grind arith,
    grind arith,
  )
  follows_by before (Writes bytes taken) follows = follows

  each_by : (before calls : List Call) → EachFollows task before calls
      → EachFollows task' before calls
  each_by before [] each = tt
  each_by before (call ∷ calls) each =
      (follows_by before call each.0, each_by (before ++ call ∷ []) calls each.1)

  going_by : {D : Type 0} (transition : D → Call → D → Type 0) (read written : List ℕ)
      (reported : Bool) (count : ℕ) (old new : D)
      → Going task transition read written reported count old new
      → Going task' transition read written reported count old new
  going_by transition read written reported count old new g = record {
    calls = g.calls;
    made = g.made;
    each = each_by [] g.calls g.each;
    faults = g.faults;
    reports = g.reports;
    reads = g.reads;
    gave = g.gave;
    took = g.took;
  }

  pub translating_by : {D : Type 0} {transition : D → Call → D → Type 0}
      {shown : List ℕ → List ℕ → List ℕ → Type 0} {count : ℕ} {old new : D} {held : List ℕ}
      → Translating task transition shown count old new held
      → Translating task' transition shown count old new held
  translating_by {D} {transition} {shown} {count} {old} {new} {held} t = record {
    came = t.came;
    text = t.text;
    going = going_by transition t.came t.text false count old new t.going;
    due = same.due t.came t.text t.due;
    shows = t.shows;
    few = t.few;
  }

-- nothing is called
pub translates_nothing : (task : Task Refusal) {D : Type 0} (transition : D → Call → D → Type 0)
    (shown : List ℕ → List ℕ → List ℕ → Type 0) (limit : ℕ) (old : D) (header : List ℕ)
    → Begins task shown header → RunEnds task transition limit old old OutOfMemory
translates_nothing task transition shown limit old header begins = record {
  goes = goes_nothing task transition limit old begins.out_of_memory;
  fills = fills_so_far task transition [] [] false 0 old old (going_start task transition old) header
      begins.full;
}
