use Rattle.std.proofs.Common.{◌≡◌, ◌-◌, ◌^◌, arith, refl}
use Rattle.std.proofs.lemmas.Nat.{pow_below, pow_pos}
use Rattle.etherparse.proofs.Halving.{first_above, first_below, half_found, last_found}
use Rattle.etherparse.proofs.defrag.sections.count_before.Goals as goal
use Rattle.etherparse.proofs.defrag.sections.count_before.Goals.{then-sections-half, else-sections-half}

pub loop-bits-init : goal.loop-bits-init
loop-bits-init c =
    let power = c.ilog2-bits.ensures.power_le in
    let next = c.ilog2-bits.ensures.next_power_gt in
    let few = pow_below c.ilog2-bits.result 64 c.ilog2-bits.ensures.bound in
    let some = pow_pos c.ilog2-bits.result in
    elim c.if-sections-half.branch [
      | then-sections-half w ↦
          let found = first_above c.args.sections.now c.args.start (2 ^ c.ilog2-bits.result) _
          c.if-sections-half.count _ c.requires w.if-sections-half.true (omega (arith, few, some))
          power next (omega (arith, few, power, w.count-is)) in
          (c.ilog2-bits.ensures.bound, found.within, found.prefix, found.back)
      | else-sections-half w ↦
          let found = first_below c.args.sections.now c.args.start (2 ^ c.ilog2-bits.result) _
          c.if-sections-half.count _ c.requires w.if-sections-half.false
          (omega (arith, few, some)) power w.count-is in
          (c.ilog2-bits.ensures.bound, found.within, found.prefix, found.back)
    ]

pub loop-bits-preserved : goal.loop-bits-preserved
loop-bits-preserved c =
    let inv = c.loop-bits.invariant in
    let some = c.loop-bits-test.true in
    let few = pow_below (c.loop-bits.bits - 1) 64 (omega (arith, inv.0)) in
    let positive = pow_pos (c.loop-bits.bits - 1) in
    let found = half_found c.args.sections.now c.args.start c.loop-bits.count c.loop-bits.bits _
    c.from.result _ c.requires c.from.ensures (omega (arith, some)) inv.0
    (omega (arith, few, positive)) record { within = inv.1; prefix = inv.2; back = inv.3 } in
    (omega (arith, inv.0), found.within, found.prefix, found.back)

pub returns-clause-before : goal.returns-clause-before
returns-clause-before c =
    let inv = c.loop-bits.invariant in
    let none : c.loop-bits.bits ≡ 0 = omega (arith, c.loop-bits-test.false) in
    let inv = rw none at inv in
    last_found c.args.sections.now c.args.start c.loop-bits.count c.from-2.result _ _ c.requires
    record { within = inv.1; prefix = inv.2; back = inv.3 } refl c.from-2.ensures
