use Rattle.std.proofs.Common.{ap}
use Rattle.etherparse.specs.ReassemblyTable.{Pool}
use Rattle.etherparse.proofs.defrag.reassembly_table.ReassemblyTable.retain.Goals as goal

pub retain_reassemblies-requires-clause-tested : goal.retain_reassemblies-requires-clause-tested
retain_reassemblies-requires-clause-tested g c =
    rw (ap (λ (pool : Pool g.row.K.Denot g.row.T.Denot). pool.reassemblies) c.self.view_is) c.requires

pub invariant_of-self : goal.invariant_of-self
invariant_of-self g c =
    record {
      slots = c.retain_reassemblies.ensures.slots;
      tracks = c.retain_reassemblies.ensures.tracks;
    }

pub returns-clause-starts : goal.returns-clause-starts
returns-clause-starts g c = rw (← c.self.view_is) c.retain_reassemblies.ensures.names
