-- Calls one after another, and calls that are writes alone.
use Rattle.std.proofs.Common.{◌≡◌, ◌∙◌, sym, ap, refl, subst, ℕ, zero, suc, ◌+◌, arith, false, List, [], ◌∷◌, ◌++◌}
use Rattle.std.proofs.Common.{Some, None, append_assoc, append-nil}
use Rattle.std.specs.Prelude.{cond}
use Rattle.std.specs.List.{AllByRecursion}
use Rattle.std.proofs.lemmas.List.Elements.{filter_map-append}
use Rattle.std.proofs.lemmas.List.Sums.{sum_by-append}
use Rattle.device_runs.specs.Calls.{Call, Reads, Writes, Makes, bytes_read, read_count, is_read, is_end_reported}
use Rattle.device_runs.specs.Calls.{fault_of, faults_of}
use Rattle.device_runs.specs.Runs.{Task, EachFollows}
use Rattle.device_runs.specs.Writes.{TakesBytes}

pub AllByRecursion-append : {X : Type 0} (P : X → Type 0) (xs ys : List X) → AllByRecursion P xs
    → AllByRecursion P ys → AllByRecursion P (xs ++ ys)
AllByRecursion-append P [] ys p q = q
AllByRecursion-append P (x ∷ xs) ys p q = (p.0, AllByRecursion-append P xs ys p.1 q)

pub Makes-append : {D : Type 0} (transition : D → Call → D → Type 0) (a b c : D) (xs ys : List Call)
    → Makes transition a xs b → Makes transition b ys c → Makes transition a (xs ++ ys) c
Makes-append transition a b c [] ys p q = subst (λ s. Makes transition s ys c) p q
Makes-append transition a b c (x ∷ xs) ys p q =
    (p.0, p.1, Makes-append transition p.0 b c xs ys p.2 q)

pub read_count-append : (xs ys : List Call) → read_count (xs ++ ys) ≡ read_count xs + read_count ys
read_count-append xs ys = sum_by-append (λ call. cond (is_read call) 1 0) xs ys

pub EachFollows-append : {R : Type 0} (task : Task R) (before xs ys : List Call)
    → EachFollows task before xs → EachFollows task (before ++ xs) ys
    → EachFollows task before (xs ++ ys)
EachFollows-append task before [] ys p q = subst (λ l. EachFollows task l ys) (append-nil before) q
EachFollows-append task before (x ∷ xs) ys p q = (
  p.0,
  EachFollows-append task (before ++ x ∷ []) xs ys p.1
      (subst (λ l. EachFollows task l ys) (sym (append_assoc before (x ∷ []) xs)) q),
)

-- writes that take bytes have no fault,
pub writes_faults : (calls : List Call) → AllByRecursion TakesBytes calls → faults_of calls ≡ []
writes_faults [] each = refl
writes_faults (Reads given ∷ calls) each = absurd each.0
writes_faults (Writes bytes None ∷ calls) each = absurd each.0
writes_faults (Writes bytes (Some zero) ∷ calls) each = let some = each.0.0 in absurd (omega arith)
writes_faults (Writes bytes (Some (suc n)) ∷ calls) each = writes_faults calls each.1

-- report no end,
pub writes_report : (calls : List Call) → AllByRecursion TakesBytes calls → is_end_reported calls ≡ false
writes_report [] each = refl
writes_report (Reads given ∷ calls) each = absurd each.0
writes_report (Writes bytes taken ∷ calls) each = writes_report calls each.1

-- and read nothing
pub writes_count : (calls : List Call) → AllByRecursion TakesBytes calls → read_count calls ≡ 0
writes_count [] each = refl
writes_count (Reads given ∷ calls) each = absurd each.0
writes_count (Writes bytes taken ∷ calls) each = writes_count calls each.1

pub writes_read : (calls : List Call) → AllByRecursion TakesBytes calls → bytes_read calls ≡ []
writes_read [] each = refl
writes_read (Reads given ∷ calls) each = absurd each.0
writes_read (Writes bytes taken ∷ calls) each = writes_read calls each.1

-- they may follow where there is no fault
pub writes_follow : {R : Type 0} (task : Task R) (before calls : List Call) → faults_of before ≡ []
    → AllByRecursion TakesBytes calls → EachFollows task before calls
writes_follow task before [] none each = tt
writes_follow task before (Reads given ∷ calls) none each = absurd each.0
writes_follow task before (Writes bytes None ∷ calls) none each = absurd each.0
writes_follow task before (Writes bytes (Some zero) ∷ calls) none each = let some =
    each.0.0 in absurd (omega arith)
writes_follow task before (Writes bytes (Some (suc n)) ∷ calls) none each =
    let call = Writes bytes (Some (suc n)) in
    let fits = each.0.1 in (
      (none, omega arith),
      writes_follow task (before ++ call ∷ []) calls
          (filter_map-append fault_of before (call ∷ []) ∙ ap (λ l. l ++ []) none) each.1,
    )
