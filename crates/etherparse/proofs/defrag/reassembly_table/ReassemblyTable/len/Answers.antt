use Rattle.std.proofs.Common.{◌≡◌, ◌∙◌, ap, length}
use Rattle.etherparse.specs.ReassemblyTable.{Pool}
use Rattle.etherparse.proofs.StartTotals.{starts_count}
use Rattle.etherparse.proofs.defrag.reassembly_table.ReassemblyTable.len.Goals as goal

pub returns-clause-starts : goal.returns-clause-starts
returns-clause-starts g c =
    let i = c.self.inside in
    c.len.ensures.len ∙ starts_count i.active.entries i.starts.order i.held_bytes c.self.invariant.tracks
    ∙ ap (λ (pool : Pool g.row.K.Denot g.row.T.Denot). length pool.starts) c.self.view_is
