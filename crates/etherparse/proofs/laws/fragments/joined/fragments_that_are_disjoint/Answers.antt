use Rattle.std.proofs.Common.{ap, arith, get_or, refl}
use Rattle.etherparse.specs.Fragments.{Fragment}
use Rattle.etherparse.proofs.Literals.{none_at_end, same_where_shared}
use Rattle.etherparse.proofs.laws.fragments.joined.fragments_that_are_disjoint.Goals as goal

pub returns-clause-other_bytes : goal.returns-clause-other_bytes
returns-clause-other_bytes c h =
    let same = ap (λ (f : Fragment). get_or f.bytes 7 0)
    (same_where_shared _ _ 0 h (omega arith, omega arith) (omega arith, omega arith)) in
    absurd (omega arith)

pub returns-clause-inside : goal.returns-clause-inside
returns-clause-inside c h =
    let same = ap (λ (f : Fragment). f.offset)
    (same_where_shared _ _ 8 h (omega arith, omega arith) (omega arith, omega arith)) in
    absurd (omega arith)

pub returns-clause-other_flag : goal.returns-clause-other_flag
returns-clause-other_flag c h =
    let same = ap (λ (f : Fragment). f.more)
    (same_where_shared _ _ 0 h (omega arith, omega arith) (omega arith, omega arith)) in
    cc

pub returns-clause-at_end : goal.returns-clause-at_end
returns-clause-at_end c h =
    let before = none_at_end _ _ 8 8 h refl (omega arith, omega arith) in omega arith

pub returns-clause-after_end : goal.returns-clause-after_end
returns-clause-after_end c h =
    let before = none_at_end _ _ 8 24 h refl (omega arith, omega arith) in omega arith
