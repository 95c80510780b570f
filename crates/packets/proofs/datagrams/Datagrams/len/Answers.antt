use Rattle.std.proofs.Common.{◌∙◌, sym, subst}
use Rattle.etherparse.specs.OpenReassemblies.{IsOpenCount}
use Rattle.etherparse.specs.Timestamps.{pool_by}
use Rattle.packets.specs.declared.datagrams.Received.{Received}
use Rattle.packets.proofs.datagrams.Datagrams.len.Goals as goal

pub returns : goal.returns
returns g c lists shows =
    let last = λ (r : Received). r.last in
    let pool = c.args.self.now.pool in
    let read = c.read_pools_have_as_many_reassemblies.ensures in
    subst (IsOpenCount lists) (read.open last pool ∙ sym c.open_len.ensures.len)
    (c.open_reassemblies_are_counted.ensures (pool_by last pool) lists
    (read.names last pool c.open_len.ensures.names) shows)
