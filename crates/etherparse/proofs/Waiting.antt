-- A datagram that waits for more than its first fragment.
use Rattle.std.proofs.Common.{◌≡◌, sym, false, Option, None, List, [], ◌∷◌, ℕ, IsSomeAnd, refl, subst}
use Rattle.etherparse.specs.declared.defrag.overlap_rule.OverlapRule.{OverlapRule}
use Rattle.etherparse.specs.Fragments.{Fragment, is_complete, refusal_of}
use Rattle.etherparse.specs.Outcome.{Outcome, outcome}
use Rattle.etherparse.proofs.OutcomeLemmas.{is_waiting}
use Rattle.etherparse.specs.declared.defrag.reassembly.Reassembly.{Reassembly}
use Rattle.etherparse.specs.ReassemblyTable.{Becomes, IsReassemblyOf, ShowsReassembly}

-- the first fragment of a datagram, which waits for others
pub first_waits : {T : Type 0} (kept rule : OverlapRule) (f : Fragment) (time : T)
    (old new : Option (Reassembly T)) (fs : List Fragment) → old ≡ None → ShowsReassembly kept old fs
    → (fs ≡ [] → kept ≡ rule) → refusal_of rule [] f ≡ None → is_complete (f ∷ []) ≡ false
    → IsSomeAnd new (IsReassemblyOf rule (f ∷ []) time)
    → Becomes {X = List ℕ} kept (λ text. text) (outcome kept fs f) time new None
first_waits {T} kept rule f time old new fs none shows begins taken open_end reassembly =
    let empty : fs ≡ [] = subst (λ (o : Option (Reassembly T)). ShowsReassembly kept o fs) none shows in
    subst (λ (r : OverlapRule).
    Becomes {X = List ℕ} r (λ text. text) (outcome r fs f) time new None) (sym (begins empty))
    (subst (λ (gs : List Fragment).
    Becomes {X = List ℕ} rule (λ text. text) (outcome rule gs f) time new None) (sym empty)
    (subst (λ (o : Outcome). Becomes {X = List ℕ} rule (λ text. text) o time new None)
    (sym (is_waiting rule [] f taken open_end)) (refl, reassembly)))
