use Rattle.std.proofs.Common.{◌≡◌, ap, sym}
use Rattle.etherparse.specs.ReassemblyTable.{Pool}
use Rattle.etherparse.proofs.StartTotals.{starts_hold}
use Rattle.etherparse.proofs.defrag.reassembly_table.ReassemblyTable.open_bytes.Goals as goal

pub returns-clause-starts : goal.returns-clause-starts
returns-clause-starts g c =
    let i = c.self.inside in
    starts_hold g.K.PartialEq.eq g.met.K.Eq.laws i.active.entries i.starts.order i.held_bytes c.args.self.now
    (ap (λ (pool : Pool g.row.K.Denot g.row.T.Denot). pool.reassemblies) (sym c.self.view_is))
    (ap (λ (pool : Pool g.row.K.Denot g.row.T.Denot). pool.starts) (sym c.self.view_is))
    c.len.ensures.unique c.self.invariant.tracks
