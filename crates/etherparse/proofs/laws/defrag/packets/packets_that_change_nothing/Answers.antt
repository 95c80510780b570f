use Rattle.std.proofs.Common.{◌≡◌, subst, sym, refl, inl, inr, true, ℕ, List, [], ◌∷◌, Option, None, Some, replicate}
use Rattle.std.specs.Map.{lookup}
use Rattle.std.specs.Prelude.{nat_eq}
use Rattle.etherparse.specs.declared.defrag.ip_defrag_error.IpDefragError.TheVariants.{UnalignedFragmentPayloadLen}
use Rattle.etherparse.specs.declared.defrag.overlap_rule.OverlapRule.{OverlapRule}
use Rattle.etherparse.specs.declared.defrag.overlap_rule.OverlapRule.TheVariants.{Overwrites, Refuses}
use Rattle.etherparse.specs.Fragments.{Fragment, fragment}
use Rattle.etherparse.specs.Outcome.{outcome}
use Rattle.etherparse.specs.ReassemblyTable.{IsErrorOf, ShowsReassembly, StaysButRoom, reassembly_at}
use Rattle.etherparse.specs.declared.defrag.reassembly.Reassembly.{Reassembly}
use Rattle.etherparse.specs.declared.defrag.ip_frag_id.IpFragId.{IpFragId}
use Rattle.etherparse.specs.IpDefragPool.{same_id}
use Rattle.etherparse.specs.IpFragId.{id_named, overlap_rule_of}
use Rattle.etherparse.proofs.laws.defrag.packets.packets_that_change_nothing.Goals as goal

pub returns-clause-other_error : goal.returns-clause-other_error
returns-clause-other_error c pool time channel p = let is = (p.passed refl).0 in cc

stays_same : (s : Option (Reassembly ℕ)) → StaysButRoom s s
stays_same None = refl
stays_same (Some s) = refl

pub returns-clause-unaligned : goal.returns-clause-unaligned
returns-clause-unaligned c pool name time channel = record {
  passed = λ is. cc;
  accepted = λ fs shows. tt;
  refused = λ fs shows. inl refl;
  others = λ q other. refl;
  err = stays_same (reassembly_at (same_id nat_eq) pool (id_named name channel));
}

abbrev first : Fragment
first = fragment 0 true (replicate 8 0)

not_unaligned : (rule : OverlapRule)
    → IsErrorOf first (outcome rule [] first) (UnalignedFragmentPayloadLen 0 8) → ⊥
not_unaligned Overwrites (inl is) = cc
not_unaligned Overwrites (inr is) = cc
not_unaligned Refuses (inl is) = cc
not_unaligned Refuses (inr is) = cc

pub returns-clause-taken : goal.returns-clause-taken
returns-clause-taken c pool name time channel none p =
    let id = id_named name channel in
    not_unaligned (overlap_rule_of id.ip)
    (p.refused [] (subst (λ (reassemblies : List (IpFragId ℕ × Reassembly ℕ)).
    ShowsReassembly (overlap_rule_of id.ip) (lookup (same_id nat_eq id) reassemblies) []) (sym none) refl))
