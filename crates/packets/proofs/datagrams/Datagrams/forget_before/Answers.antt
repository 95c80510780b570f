use Rattle.std.proofs.Common.{◌≡◌, ◌∙◌, ap, ℕ, Bool, nat_le}
use Rattle.std.specs.Prelude.{filter, is_some}
use Rattle.etherparse.specs.PoolCalls.{Lists, retained_from}
use Rattle.etherparse.specs.ReassemblyTable.{reassembly_at}
use Rattle.etherparse.specs.declared.defrag.ip_frag_id.IpFragId.{IpFragId}
use Rattle.packets.specs.declared.datagrams.Received.{Received}
use Rattle.packets.proofs.HeldLemmas.{waits_at}
use Rattle.packets.proofs.StartedLemmas.{forgotten_started, same}
use Rattle.packets.proofs.WithinLemmas.{names_waiting}
use Rattle.packets.proofs.datagrams.Datagrams.forget_before.Goals as goal

pub returns-clause-lists : goal.returns-clause-lists
returns-clause-lists g c lists shows name channel =
    rw c.free_spare.ensures.reassemblies
    (c.retained_lists_are_read.ensures (λ (r : Received). r.last) c.args.time c.args.self.now.pool
    c.keep_from.new.pool lists c.keep_from.ensures.retained shows name channel)

pub returns-clause-started : goal.returns-clause-started
returns-clause-started g c started kept =
    forgotten_started (λ (r : Received) (stays : Bool). stays ≡ nat_le c.args.time r.last) c.args.self.now
    (record { pool = c.free_spare.new.self }) started
    (λ q. rw c.free_spare.ensures.reassemblies (c.keep_from.ensures.retained q)) kept

pub returns-clause-order : goal.returns-clause-order
returns-clause-order g c lists order shows has =
    let pool = c.keep_from.new.pool in
    let left : Lists = λ name channel. retained_from c.args.time (lists name channel) in
    let there : IpFragId ℕ → Bool = λ (q : IpFragId ℕ). is_some (reassembly_at same pool q) in
    c.free_spare.ensures.starts ∙ c.keep_from.ensures.starts ∙ ap (filter there) has
    ∙ names_waiting there left order
    (waits_at {S = g.row.S.Denot} {H = g.row.S-Hasher.Denot} c.timestamps_are_read.ensures.fragments (record { pool = pool }) left
    (c.retained_lists_are_read.ensures (λ (r : Received). r.last) c.args.time c.args.self.now.pool pool
    lists c.keep_from.ensures.retained shows))
