-- A run, call by call.
use Rattle.std.proofs.Common.{◌≡◌, refl, subst, ℕ, ◌+◌, ◌<◌, ◌≤◌, arith, [], Bool, true, false, List, ◌∷◌, ◌++◌, length}
use Rattle.std.proofs.Common.{Option, Some, None, append_assoc, append-nil}
use Rattle.std.proofs.lemmas.List.Concat.{flat_map-append}
use Rattle.std.proofs.lemmas.List.Elements.{filter_map-append}
use Rattle.std.proofs.lemmas.List.Folds.{list_any-append}
use Rattle.device_runs.specs.declared.fault.Fault.{Fault}
use Rattle.device_runs.specs.declared.fault.Fault.TheVariants.{ReadFailed}
use Rattle.device_runs.specs.Calls.{Call, Reads, Writes, Makes, bytes_given, bytes_taken, bytes_read, bytes_written}
use Rattle.device_runs.specs.Calls.{read_count, reports_end, is_end_reported, fault_of, faults_of}
use Rattle.device_runs.specs.Endings.{Ending, Stopped, OutOfMemory, OutOfReads, Ends}
use Rattle.device_runs.specs.Runs.{Task, IsOutcome, MayRead, Follows, EachFollows, Goes}
use Rattle.device_runs.specs.Writes.{Written, Stops}
use Rattle.device_runs.proofs.CallLemmas.{Makes-append, read_count-append, EachFollows-append, writes_faults}
use Rattle.device_runs.proofs.CallLemmas.{writes_report, writes_count, writes_read, writes_follow}
use Rattle.std.proofs.Math.Bool.{or-false}

-- a call that is a fault gives no byte,
fault_gives : (call : Call) (fault : Fault) → fault_of call ≡ Some fault → bytes_given call ≡ []
fault_gives call fault is = grind arith

-- takes none,
fault_takes : (call : Call) (fault : Fault) → fault_of call ≡ Some fault → bytes_taken call ≡ []
fault_takes call fault is = grind arith

-- and reports no end
fault_reports : (call : Call) (fault : Fault) → fault_of call ≡ Some fault → reports_end call ≡ false
fault_reports call fault is = grind arith

no_read : (bytes : List ℕ) (taken : Option ℕ) → fault_of (Writes bytes taken) ≡ Some ReadFailed → ⊥
no_read bytes taken is = grind arith

pub some_reports : (chunk : List ℕ) → 0 < length chunk → reports_end (Reads (Some chunk)) ≡ false
some_reports chunk some = grind arith

module _ {R : Type 0} (task : Task R) where
  -- what is written before a write that is a fault
  stop_outcome : (fault : Fault) (bytes : List ℕ) (taken : Option ℕ)
      → fault_of (Writes bytes taken) ≡ Some fault
      → (end_reported : Bool) (read written missing : List ℕ) → task.full end_reported read (written ++ missing)
      → IsOutcome task (Stopped fault) end_reported read written
  stop_outcome fault bytes taken is end_reported read written missing full = grind arith

  module _ {D : Type 0} (transition : D → Call → D → Type 0) where
    -- calls without a fault, so many of them reads, that read and wrote these bytes, and whether a
    -- read reported the end
    pub record Going (read written : List ℕ) (end_reported : Bool) (count : ℕ) (old new : D) : Type 0 where
      pub calls : List Call
      pub made : Makes transition old calls new
      pub each : EachFollows task [] calls
      pub faults : faults_of calls ≡ []
      pub reports : is_end_reported calls ≡ end_reported
      pub reads : read_count calls ≡ count
      pub gave : bytes_read calls ≡ read
      pub took : bytes_written calls ≡ written

    pub going_start : (old : D) → Going [] [] false 0 old old
    going_start old =
        record {
          calls = [];
          made = refl;
          each = tt;
          faults = refl;
          reports = refl;
          reads = refl;
          gave = refl;
          took = refl;
        }

    may_read : (read written : List ℕ) (count : ℕ) (old new : D)
        (g : Going read written false count old new) → task.due read written → MayRead task g.calls
    may_read read written count old new g due =
        record { no_fault = g.faults; no_end = g.reports; written = rw (g.gave, g.took) due }

    -- one more read,
    pub going_read : (read written : List ℕ) (count : ℕ) (old mid new : D)
        (g : Going read written false count old mid) → task.due read written
        → (chunk : List ℕ) → transition mid (Reads (Some chunk)) new → length chunk ≤ task.room
        → Going (read ++ chunk) written (reports_end (Reads (Some chunk))) (count + 1) old new
    going_read read written count old mid new g due chunk call size =
        let last = Reads (Some chunk) ∷ [] in
        record {
          calls = g.calls ++ last;
          made = Makes-append transition old mid new g.calls last g.made (new, call, refl);
          each = EachFollows-append task [] g.calls last g.each
              ((may_read read written count old mid g due, size), tt);
          faults = grind (arith, filter_map-append);
          reports = grind (arith, list_any-append, or-false);
          reads = grind (arith, read_count-append);
          gave = grind (arith, flat_map-append, append-nil);
          took = grind (arith, flat_map-append, append-nil);
        }

    -- of some bytes,
    pub going_chunk : (read written : List ℕ) (count : ℕ) (old mid new : D)
        → Going read written false count old mid → task.due read written
        → (chunk : List ℕ) → transition mid (Reads (Some chunk)) new
        → length chunk ≤ task.room → 0 < length chunk
        → Going (read ++ chunk) written false (count + 1) old new
    going_chunk read written count old mid new g due chunk call size some =
        subst (λ end_reported. Going (read ++ chunk) written end_reported (count + 1) old new)
        (some_reports chunk some)
        (going_read read written count old mid new g due chunk call size)

    -- or of the end
    pub going_end : (read written : List ℕ) (count : ℕ) (old mid new : D)
        → Going read written false count old mid → task.due read written
        → (chunk : List ℕ) → chunk ≡ [] → transition mid (Reads (Some chunk)) new
        → Going read written true (count + 1) old new
    going_end read written count old mid new g due chunk none call =
        subst (λ l. Going l written true (count + 1) old new) (append-nil read)
        (going_read read written count old mid new g due []
        (subst (λ p. transition mid (Reads (Some p)) new) none call) (omega arith))

    -- and writes
    pub going_write : (read written : List ℕ) (end_reported : Bool) (count : ℕ) (old mid new : D)
        (g : Going read written end_reported count old mid)
        (text : List ℕ) → Written transition mid text new
        → Going read (written ++ text) end_reported count old new
    going_write read written end_reported count old mid new g text w = record {
      calls = g.calls ++ w.calls;
      made = Makes-append transition old mid new g.calls w.calls g.made w.made;
      each = EachFollows-append task [] g.calls w.calls g.each
          (writes_follow task g.calls w.calls g.faults w.each);
      faults = grind (arith, filter_map-append, writes_faults);
      reports = grind (arith, list_any-append, writes_report, or-false);
      reads = grind (arith, read_count-append, writes_count);
      gave = grind (arith, flat_map-append, writes_read, append-nil);
      took = grind (arith, flat_map-append);
    }

    -- a run that ends after these calls, with no fault
    pub going_ends : (limit : ℕ) (read written : List ℕ) (end_reported : Bool) (count : ℕ) (old new : D)
        (g : Going read written end_reported count old new)
        (ending : Ending R) → count ≤ limit → Ends limit g.calls ending
        → IsOutcome task ending end_reported read written → Goes task transition limit old new ending
    going_ends limit read written end_reported count old new g ending fits ends outcome =
        grind arith

    -- a run that ends by one more call, a fault
    going_fails : (limit : ℕ) (read written : List ℕ) (end_reported : Bool) (count : ℕ) (old mid new : D)
        (g : Going read written end_reported count old mid)
        (call : Call) → transition mid call new → Follows task g.calls call → (fault : Fault)
        → fault_of call ≡ Some fault
        → read_count g.calls + read_count (call ∷ []) ≤ limit
        → IsOutcome task (Stopped fault) end_reported read written
        → Goes task transition limit old new (Stopped fault)
    going_fails limit read written end_reported count old mid new g call made follows
        fault is fits outcome =
        let last = call ∷ [] in
        let calls = g.calls ++ last in
        let gave : bytes_read calls ≡ read =
        grind (arith, flat_map-append, fault_gives, append-nil) in
        let took : bytes_written calls ≡ written =
        grind (arith, flat_map-append, fault_takes, append-nil) in
        let reports : is_end_reported calls ≡ end_reported =
        grind (arith, list_any-append, fault_reports, or-false) in
        record {
          calls = calls;
          made = Makes-append transition old mid new g.calls last g.made (new, made, refl);
          each = EachFollows-append task [] g.calls last g.each (follows, tt);
          reads = rw (read_count-append g.calls last) fits;
          ends = grind (arith, filter_map-append);
          output = rw (reports, gave, took) outcome;
        }

    -- a write of this text stops a run
    pub going_stops : (limit : ℕ) (read written : List ℕ) (end_reported : Bool) (count : ℕ)
        (old mid new : D) → Going read written end_reported count old mid → count ≤ limit
        → (text : List ℕ) (fault : Fault) → task.full end_reported read (written ++ text)
        → Stops transition fault mid text new → Goes task transition limit old new (Stopped fault)
    going_stops limit read written end_reported count old mid new g fits text fault full s =
        let before = going_write read written end_reported count old mid s.mid g s.prefix s.before in
        let n = before.reads in
        let parts : written ++ text ≡ (written ++ s.prefix) ++ s.missing =
        grind (arith, append_assoc) in
        going_fails limit read (written ++ s.prefix) end_reported count old s.mid new before
        (Writes s.offered s.taken) s.stop (before.faults, s.some) fault s.is_fault (omega arith)
        (stop_outcome fault s.offered s.taken s.is_fault end_reported read (written ++ s.prefix) s.missing
        (subst (task.full end_reported read) parts full))

    -- a read fails
    pub going_unread : (limit : ℕ) (read written : List ℕ) (count : ℕ) (old mid new : D)
        → Going read written false count old mid → task.due read written
        → transition mid (Reads None) new → count < limit
        → Goes task transition limit old new (Stopped ReadFailed)
    going_unread limit read written count old mid new g due call fits =
        let n = g.reads in
        going_fails limit read written false count old mid new g (Reads None) call
        (may_read read written count old mid g due, omega arith) ReadFailed refl
        (omega arith) due

    -- as many reads as may be are made
    pub going_all : (limit : ℕ) (read written : List ℕ) (old new : D)
        → Going read written false limit old new → task.due read written
        → Goes task transition limit old new OutOfReads
    going_all limit read written old new g due =
        going_ends limit read written false limit old new g OutOfReads (omega arith)
        (g.faults, g.reports, g.reads) due

    -- nothing is called
    pub goes_nothing : (limit : ℕ) (old : D) → task.out_of_memory false [] []
        → Goes task transition limit old old OutOfMemory
    goes_nothing limit old outcome =
        record {
          calls = [];
          made = refl;
          each = tt;
          reads = omega arith;
          ends = (refl, λ none. refl);
          output = outcome;
        }
