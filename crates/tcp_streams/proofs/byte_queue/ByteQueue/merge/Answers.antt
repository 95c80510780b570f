use Rattle.std.proofs.Common.{◌≡◌, ◌∙◌, ◌-◌, ap, List, ℕ, length, take, drop, arith}
use Rattle.std.proofs.lemmas.List.{take_rest}
use Rattle.tcp_streams.proofs.QueueLemmas.{kept_view}
use Rattle.tcp_streams.proofs.byte_queue.ByteQueue.merge.Goals as goal

held_is : (c : goal.After-self-1) → let xs = c.deref_mut.result.now in
    take (length xs - c.self.inside.dropped) (drop c.self.inside.dropped xs) ≡ c.args.self.now
held_is c =
    take_rest c.deref_mut.result.now c.self.inside.dropped
    ∙ ap (λ (xs : List ℕ). drop c.self.inside.dropped xs) c.deref_mut.ensures.value ∙ c.self.view_is

pub returns-clause-adds : goal.returns-clause-adds
returns-clause-adds c =
    let fits = c.self.invariant in
    let size = ap (λ (xs : List ℕ). length xs) c.deref_mut.ensures.value in
    rw (kept_view c.self.inside.bytes c.deref_mut.result.now c.merge.new.held c.self.inside.dropped (omega arith)
    c.deref_mut.ensures.len c.merge.auto.held)
    (rw (held_is c) at c.merge.ensures.adds)

pub returns-clause-conflicts : goal.returns-clause-conflicts
returns-clause-conflicts c = rw (held_is c) at c.merge.ensures.conflicts
