use Rattle.std.proofs.Common.{◌∙◌, inr, subst, sym}
use Rattle.std.proofs.lemmas.Bool.{false≢true}
use Rattle.etherparse.specs.IpFragRange.{SharesWith}
use Rattle.etherparse.proofs.StoredOrder.{cmp_rises, gap_without}
use Rattle.etherparse.proofs.defrag.stored_fragment.find_location.Goals as goal

pub returns-in-Err : goal.returns-in-Err
returns-in-Err g c =
    let shares = c.shares_offset.ensures.0 c.if-shares_offset.true in
    inr (
      (λ listed. gap_without c.args.stored_fragments.now c.args.stored_fragment c.in-Err.field-0
          (c.in-Err.ensures.position (cmp_rises c.args.stored_fragments.now c.args.stored_fragment listed))),
      subst (λ r. SharesWith c.args.sections.now r) c.reach.ensures shares,
    )

pub returns-in-Err-2 : goal.returns-in-Err-2
returns-in-Err-2 g c = (
  c.in-Err.ensures.bound,
  (λ listed. c.in-Err.ensures.position (cmp_rises c.args.stored_fragments.now c.args.stored_fragment listed)),
  (λ shared. false≢true (sym c.if-shares_offset.false ∙ c.shares_offset.ensures.1
      (subst (λ r. SharesWith c.args.sections.now r) (sym c.reach.ensures) shared))),
)
