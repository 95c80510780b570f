use Rattle.std.proofs.Common.{[], ◌∷◌, arith, refl}
use Rattle.ep_base.specs.Sum.{total}
use Rattle.ep_base.proofs.laws.examples.bytes_changed_to_the_other_end.Goals as goal

pub returns-clause-up : goal.returns-clause-up
unfolding total
returns-clause-up c =
    c.one_changed_byte.ensures (69 ∷ [])
    (0 ∷ 115 ∷ 0 ∷ 0 ∷ 64 ∷ 0 ∷ 64 ∷ 17 ∷ 184 ∷ 97 ∷ 192 ∷ 168 ∷ 0 ∷ 1 ∷ 192 ∷ 168 ∷ 0 ∷ 199 ∷
    []) 0 255 (omega arith) (omega arith) (λ e. cc) refl

pub returns-clause-down : goal.returns-clause-down
unfolding total
returns-clause-down c = c.one_changed_byte.ensures (255 ∷ []) [] 255 0 (omega arith)
    (omega arith) (λ e. cc) refl
