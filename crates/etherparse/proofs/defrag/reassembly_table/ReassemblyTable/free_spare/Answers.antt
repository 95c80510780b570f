use Rattle.std.proofs.Common.{◌≡◌}
use Rattle.etherparse.proofs.defrag.reassembly_table.ReassemblyTable.free_spare.Goals as goal

pub invariant_of-self : goal.invariant_of-self
invariant_of-self g c = record {
  slots = c.free.ensures.slots _ c.self.invariant.slots;
  tracks = c.self.invariant.tracks;
}

pub returns-clause-memory : goal.returns-clause-memory
returns-clause-memory g c = rw (← c.self.view_is) (c.free.ensures.memory _)
