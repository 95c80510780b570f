-- Which field of a plan is reported to be at fault.
use Rattle.std.proofs.Common.{arith, ◌≡◌, refl, Option, Some, None, MatchOption, IfSome, IsOkUnless, Result, Ok, Err}
use Rattle.std.specs.Option.{option_or}
use Rattle.etherparse_structs.specs.Build.{refused}
use Rattle.etherparse_structs.specs.Wrong.{unless}
use Rattle.etherparse_structs.specs.declared.build.BuildError.{BuildError}
use Rattle.etherparse_structs.specs.declared.build.BuildError.TheVariants.{Field, Memory}
use Rattle.etherparse_structs.specs.declared.build.EpBuilt.{EpBuilt}
use Rattle.etherparse_structs.specs.declared.plan.PlanField.{PlanField}

-- where the first headers are right, the fault is one after them
pub at_fault_after : {A : Type 0} (lower_headers rest : Option PlanField) (x y : A) (right : Type 0)
    (wrong : PlanField → Type 0) → unless lower_headers x ≡ Ok y → MatchOption rest right wrong
    → MatchOption (option_or lower_headers rest) right wrong
at_fault_after None rest x y right wrong is reported = reported
at_fault_after (Some f) rest x y right wrong is reported = absurd (cc)

-- the fault is that of the error
pub at_fault_is : (at_fault : Option PlanField) (r : Result (Unit {0}) BuildError) (f : PlanField)
    (b : EpBuilt) → MatchOption at_fault (IsOkUnless r Memory) (λ g. r ≡ Err (Field g))
    → r ≡ Err (Field f) → b ≡ refused f → IfSome at_fault (λ g. b ≡ refused g)
at_fault_is at_fault r f b reported is same = grind arith

-- another result has no fault
pub not_at_fault : (at_fault : Option PlanField) (r : Result (Unit {0}) BuildError) (b : EpBuilt)
    → MatchOption at_fault (IsOkUnless r Memory) (λ g. r ≡ Err (Field g))
    → ((f : PlanField) → r ≡ Err (Field f) → ⊥) → IfSome at_fault (λ g. b ≡ refused g)
not_at_fault None r b reported other = tt
not_at_fault (Some f) r b reported other = absurd (other f reported)

-- a value that is there is right
pub there : {A : Type 0} (at_fault : Option PlanField) (x y : A) → unless at_fault x ≡ Ok y
    → (at_fault ≡ None) × (y ≡ x)
there None x y is = (refl, cc is)
there (Some f) x y is = absurd (cc is)

-- so is what is made of six of them
pub all_there : {A B C D E F G : Type 0} (a b c d e f : Option PlanField) (p : A) (q : B) (r : C)
    (s : D) (t : E) (u : F) (p' : A) (q' : B) (r' : C) (s' : D) (t' : E) (u' : F)
    (make : A → B → C → D → E → F → G)
    → unless a p ≡ Ok p' → unless b q ≡ Ok q' → unless c r ≡ Ok r' → unless d s ≡ Ok s'
    → unless e t ≡ Ok t' → unless f u ≡ Ok u'
    → Ok (make p' q' r' s' t' u')
    ≡ unless (option_or a (option_or b (option_or c (option_or d (option_or e f))))) (make p q r s t u)
all_there a b c d e f p q r s t u p' q' r' s' t' u' make h i j k l m =
    let h' = there a p p' h in let i' = there b q q' i in let j' = there c r r' j in
    let k' = there d s s' k in let l' = there e t t' l in let m' = there f u u' m in
    rw (h'.0, i'.0, j'.0, k'.0, l'.0, m'.0, h'.1, i'.1, j'.1, k'.1, l'.1, m'.1) refl
