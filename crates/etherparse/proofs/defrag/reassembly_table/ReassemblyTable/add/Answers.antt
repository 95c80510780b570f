use Rattle.std.proofs.Common.{refl}
use Rattle.etherparse.proofs.NamesAfter.{change_ends, names_changed}
use Rattle.etherparse.proofs.defrag.reassembly_table.ReassemblyTable.add.Goals as goal

pub invariant_of-self : goal.invariant_of-self
invariant_of-self g c =
    record { slots = c.add_fragment.ensures.slots; tracks = c.add_fragment.ensures.tracks }

pub returns-clause-starts : goal.returns-clause-starts
returns-clause-starts g c =
    rw (← c.self.view_is)
    (names_changed g.K.PartialEq.eq g.met.K.Eq.laws c.args.name _ _ _ _ _ c.self.invariant.tracks
    c.add_fragment.ensures.unique refl (change_ends c.add_fragment.result _) _ _
    c.add_fragment.ensures.order c.add_fragment.ensures.entries)
