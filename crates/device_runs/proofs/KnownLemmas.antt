-- What the calls of a run do to known bytes.
use Rattle.std.proofs.Common.{Option, ◌≡◌, ◌∙◌, sym, ap, subst, ℕ, Bool, true, false, List, [], ◌∷◌, ◌++◌, Some, None}
use Rattle.std.proofs.Common.{Result, Ok, Err, IfSome, zero, suc, ◌≤◌, arith, length, length-append}
use Rattle.std.specs.Prelude.{OnOk, ◌||◌}
use Rattle.std.specs.Io.KnownBytes.{Appends, Consumes, IsAtEnd}
use Rattle.std.proofs.KnownBytes.{Consumes-nil, Consumes-trans, Consumes-kept, Consumes-whole, Appends-nil}
use Rattle.std.proofs.KnownBytes.{Appends-trans, Appends-kept}
use Rattle.std.proofs.lemmas.List.Folds.{list_any-append}
use Rattle.device_runs.specs.Calls.{Call, Reads, Writes, Makes, bytes_given, bytes_taken, bytes_read, bytes_written}
use Rattle.device_runs.specs.Calls.{reports_end, is_end_reported, read_count, faults_of}
use Rattle.device_runs.specs.Endings.{Ending, OutOfMemory, OutOfReads, ending_by}
use Rattle.device_runs.specs.declared.device.ReaderWriter.{ReaderWriter}
use Rattle.device_runs.specs.Known.{Known, KnownCall, Transfers, known_of}
use Rattle.device_runs.specs.Runs.{Task, EachFollows, Goes}
use Rattle.device_runs.proofs.CallLemmas.{read_count-append}

-- what each call keeps, calls keep
Makes-keep : {D N : Type 0} (transition : D → Call → D → Type 0) (name : D → N)
    → ((s t : D) (call : Call) → transition s call t → name t ≡ name s)
    → (old new : D) (calls : List Call) → Makes transition old calls new → name new ≡ name old
Makes-keep transition name keep old new [] made = ap name made
Makes-keep transition name keep old new (call ∷ calls) made =
    Makes-keep transition name keep made.0 new calls made.2 ∙ keep old made.0 call made.1

-- calls on what is seen of a device
pub Makes-map : {D E : Type 0} (transition : D → Call → D → Type 0) (transition' : E → Call → E
    → Type 0) (seen : D → E)
    → ((s t : D) (call : Call) → transition s call t → transition' (seen s) call (seen t))
    → (old new : D) (calls : List Call) → Makes transition old calls new
    → Makes transition' (seen old) calls (seen new)
Makes-map transition transition' seen see old new [] made = ap seen made
Makes-map transition transition' seen see old new (call ∷ calls) made = (
  seen made.0,
  see old made.0 call made.1,
  Makes-map transition transition' seen see
      made.0 new calls made.2,
)

-- one call,
input_moves : (a b : Known) (call : Call) → KnownCall a call b
    → Consumes a.input b.input (bytes_given call)
input_moves a b (Reads (Some bytes)) known = known.0
input_moves a b (Reads None) known =
    Consumes-kept a.input a.input b.input [] (Consumes-nil a.input) known.0
input_moves a b (Writes bytes (Some n)) known =
    subst (λ i. Consumes a.input i []) (sym known.1) (Consumes-nil a.input)
input_moves a b (Writes bytes None) known =
    subst (λ i. Consumes a.input i []) (sym known.1) (Consumes-nil a.input)

output_moves : (a b : Known) (call : Call) → KnownCall a call b
    → Appends a.output b.output (bytes_taken call)
output_moves a b (Reads (Some bytes)) known =
    subst (λ o. Appends a.output o []) (sym known.2) (Appends-nil a.output)
output_moves a b (Reads None) known =
    subst (λ o. Appends a.output o []) (sym known.1) (Appends-nil a.output)
output_moves a b (Writes bytes (Some n)) known = known.0
output_moves a b (Writes bytes None) known =
    Appends-kept a.output a.output b.output [] (Appends-nil a.output) known.0

-- and many
pub known_read : (a b : Known) (calls : List Call) → Makes KnownCall a calls b
    → Consumes a.input b.input (bytes_read calls)
known_read a b [] made = subst (λ k. Consumes a.input k.input []) (sym made) (Consumes-nil a.input)
known_read a b (call ∷ calls) made =
    Consumes-trans a.input made.0.input b.input (bytes_given call) (bytes_read calls)
    (input_moves a made.0 call made.1)
    (known_read made.0 b calls made.2)

known_written : (a b : Known) (calls : List Call) → Makes KnownCall a calls b
    → Appends a.output b.output (bytes_written calls)
known_written a b [] made = subst (λ k. Appends a.output k.output [])
    (sym made) (Appends-nil a.output)
known_written a b (call ∷ calls) made =
    Appends-trans a.output made.0.output b.output (bytes_taken call) (bytes_written calls)
    (output_moves a made.0 call made.1)
    (known_written made.0 b calls made.2)

or_true : (b : Bool) → (b || true) ≡ true
or_true b = grind arith

reported_more : (before : List Call) (call : Call) → is_end_reported before ≡ true
    → is_end_reported (before ++ call ∷ []) ≡ true
reported_more before call end_reported = grind (arith, list_any-append)

-- reads that neither fail nor report the end give a byte each
read_count_le : (calls : List Call) → faults_of calls ≡ [] → is_end_reported calls ≡ false
    → read_count calls ≤ length (bytes_read calls)
read_count_le [] none untold = omega arith
read_count_le (Reads None ∷ calls) none untold = absurd (cc)
read_count_le (Reads (Some []) ∷ calls) none untold = absurd (cc)
read_count_le (Reads (Some (x ∷ bytes)) ∷ calls) none untold =
    omega (
      arith,
      read_count_le calls none untold,
      read_count-append (Reads (Some (x ∷ bytes)) ∷ []) calls,
      length-append (x ∷ bytes) (bytes_read calls),
    )
read_count_le (Writes bytes None ∷ calls) none untold = absurd (cc)
read_count_le (Writes bytes (Some zero) ∷ calls) none untold = absurd (cc)
read_count_le (Writes bytes (Some (suc n)) ∷ calls) none untold = read_count_le calls none untold

Consumes-length : (old new : Option (List ℕ)) (bytes : List ℕ) (n : ℕ) → Consumes old new bytes
    → n ≤ length bytes → IfSome old (λ all. n ≤ length all)
Consumes-length old new bytes n consumed le = grind (arith, length-append)

module _ {R : Type 0} (task : Task R) where
  -- a run over what is seen of a device,
  pub Goes-map : {D E : Type 0} (transition : D → Call → D → Type 0) (transition' : E → Call → E
      → Type 0) (seen : D → E)
      → ((s t : D) (call : Call) → transition s call t → transition' (seen s) call (seen t))
      → (limit : ℕ) (old new : D) (ending : Ending R) → Goes task transition limit old new ending
      → Goes task transition' limit (seen old) (seen new) ending
  Goes-map transition transition' seen see limit old new ending runs = record {
    calls = runs.calls;
    made = Makes-map transition transition' seen see old new runs.calls runs.made;
    each = runs.each;
    reads = runs.reads;
    ends = runs.ends;
    output = runs.output;
  }

  -- a run over a reader and a writer, whose names calls keep, over the known bytes of both
  pub Goes-reader_writer : {A B : Type 0} (remaining : A → Option (List ℕ))
      (contents : B → Option (List ℕ)) → let known = (λ (s : ReaderWriter A B).
      known_of (remaining s.reader.now) (contents s.writer.now)) in
      (limit : ℕ) (old new : ReaderWriter A B) (ending : Ending R)
      → Goes task (λ s call t. (t.reader.ghost_name ≡ s.reader.ghost_name)
      × (t.writer.ghost_name ≡ s.writer.ghost_name) × KnownCall (known s) call (known t))
      limit old new ending
      → (new.reader.ghost_name ≡ old.reader.ghost_name)
      × (new.writer.ghost_name ≡ old.writer.ghost_name)
      × Goes task KnownCall limit (known old) (known new) ending
  Goes-reader_writer {A} {B} remaining contents limit old new ending runs = (
    Makes-keep _ (λ (s : ReaderWriter A B). s.reader.ghost_name) (λ s t call h. h.0)
        old new runs.calls runs.made,
    Makes-keep _ (λ (s : ReaderWriter A B). s.writer.ghost_name) (λ s t call h. h.1)
        old new runs.calls runs.made,
    Goes-map _ KnownCall (λ (s : ReaderWriter A B). known_of (remaining s.reader.now)
        (contents s.writer.now)) (λ s t call h. h.2) limit old new ending runs,
  )

  -- where nothing is read before memory runs out, nothing is called
  pub goes_memory : {D : Type 0} (transition : D → Call → D → Type 0) (limit : ℕ) (old new : D)
      → ((end_reported : Bool) (read written : List ℕ) → task.out_of_memory end_reported read written → read ≡ [])
      → Goes task transition limit old new OutOfMemory → new ≡ old
  goes_memory transition limit old new nothing runs =
      subst (λ calls. Makes transition old calls new)
      (runs.ends.1 (nothing _ _ _ runs.output)) runs.made

  -- after the end is reported nothing is read
  input_kept : (before : List Call) → is_end_reported before ≡ true → (a b : Known) (calls : List Call)
      → EachFollows task before calls
      → Makes KnownCall a calls b → b.input ≡ a.input
  input_kept before end_reported a b [] each made = ap (λ (k : Known). k.input) made
  input_kept before end_reported a b (Reads given ∷ calls) each made = grind arith
  input_kept before end_reported a b (Writes bytes (Some n) ∷ calls) each made =
      let call = Writes bytes (Some n) in
      input_kept (before ++ call ∷ []) (reported_more before call end_reported) made.0 b calls each.1 made.2
      ∙ made.1.1
  input_kept before end_reported a b (Writes bytes None ∷ calls) each made =
      let call = Writes bytes None in
      input_kept (before ++ call ∷ []) (reported_more before call end_reported) made.0 b calls each.1 made.2
      ∙ made.1.1

  -- where the end is reported no known byte is left
  known_end : (before : List Call) (a b : Known) (calls : List Call) → EachFollows task before calls
      → Makes KnownCall a calls b
      → is_end_reported calls ≡ true → IsAtEnd b.input
  known_end before a b [] each made end_reported = absurd (cc)
  known_end before a b (Reads None ∷ calls) each made end_reported =
      known_end (before ++ Reads None ∷ []) made.0 b calls each.1 made.2 end_reported
  known_end before a b (Reads (Some []) ∷ calls) each made end_reported =
      let end = Reads (Some []) ∷ [] in
      let is_reported = list_any-append reports_end before end ∙ or_true (is_end_reported before) in
      grind (arith, input_kept)
  known_end before a b (Reads (Some (x ∷ bytes)) ∷ calls) each made end_reported =
      known_end (before ++ Reads (Some (x ∷ bytes)) ∷ []) made.0 b calls each.1 made.2 end_reported
  known_end before a b (Writes bytes taken ∷ calls) each made end_reported =
      known_end (before ++ Writes bytes taken ∷ []) made.0 b calls each.1 made.2 end_reported

  pub goes_transfer : (limit : ℕ) (a b : Known) (ending : Ending R)
      → Goes task KnownCall limit a b ending
      → Transfers task a.input b.input a.output b.output ending
  goes_transfer limit a b ending runs = record {
    end_reported = is_end_reported runs.calls;
    read = bytes_read runs.calls;
    written = bytes_written runs.calls;
    consumed = known_read a b runs.calls runs.made;
    appended = known_written a b runs.calls runs.made;
    end = known_end [] a b runs.calls runs.each runs.made;
    outcome = runs.output;
  }

  pub goes_too_many : (limit : ℕ) (a b : Known) → Goes task KnownCall limit a b OutOfReads
      → IfSome a.input (λ bytes. limit ≤ length bytes)
  goes_too_many limit a b runs = grind (arith, read_count_le, Consumes-length, known_read)

  module _ {E : Type 0} (cause : E → Ending R) (limit : ℕ) (a b : Known) where
    pub goes_end : (result : Result Unit E) → Goes task KnownCall limit a b (ending_by cause result)
        → OnOk result (IsAtEnd b.input)
    goes_end (Ok tt) runs = known_end [] a b runs.calls runs.each runs.made runs.ends.1
    goes_end (Err e) runs = tt

    -- a run that ends at the end of the input has read all of it
    pub goes_ok : (P : List ℕ → Type 0)
        → ((read written : List ℕ) → task.whole read written
        → Appends a.output b.output written → P read)
        → (result : Result Unit E) → Goes task KnownCall limit a b (ending_by cause result)
        → OnOk result (IfSome a.input P)
    goes_ok P is (Ok tt) runs =
        let read = bytes_read runs.calls in
        let written = bytes_written runs.calls in
        Consumes-whole a.input b.input read P (known_read a b runs.calls runs.made)
        (goes_end (Ok tt) runs)
        (is read written runs.output (known_written a b runs.calls runs.made))
    goes_ok P is (Err e) runs = tt
