use Rattle.std.proofs.Common.{◌≡◌, ◌∙◌, ◌+◌, ◌-◌, ◌≤◌, ap, ℕ, length, drop, min, arith}
use Rattle.std.proofs.lemmas.List.{drop_min, length-drop}
use Rattle.tcp_streams.specs.SparseBytes.{Sparse, available_end}
use Rattle.tcp_streams.specs.StreamBuf.{available_in}
use Rattle.tcp_streams.proofs.BufLemmas.{bounded, few_available, few_gaps, shows_consume}
use Rattle.tcp_streams.proofs.SparseLemmas.{consumed_available}
use Rattle.tcp_streams.proofs.stream_buf.StreamBuf.consume.Goals as goal

pub consume-requires : goal.consume-requires
consume-requires c =
    let count_is = rw c.available.ensures at c.min-count.ensures in
    few_available c.self.inside.held c.min-count.result c.self.invariant.sparse (omega (arith, count_is))

count_is : (c : goal.After-consume)
    → c.min-count.result ≡ min c.args.count (length (available_in c.self.inside.held))
count_is c = rw c.available.ensures at c.min-count.ensures

few : (c : goal.After-consume) → c.self.inside.held.taken + c.min-count.result ≤ available_end c.self.inside.held
few c = few_available c.self.inside.held c.min-count.result c.self.invariant.sparse (omega (arith, count_is c))

pub returns-clause-shows : goal.returns-clause-shows
returns-clause-shows c ss shows =
    let was = rw (← c.self.view_is) at shows in
    shows_consume _ _ ss c.min-count.result c.self.invariant.sparse (few c) (rw c.consume.ensures.held) was

pub returns-clause-available : goal.returns-clause-available
returns-clause-available c =
    rw (c.consume.ensures.held, ← c.self.view_is)
    (consumed_available c.self.inside.held c.min-count.result c.self.invariant.sparse (few c)
    ∙ ap (λ (n : ℕ). drop n (available_in c.self.inside.held)) (count_is c)
    ∙ drop_min c.args.count (available_in c.self.inside.held))

pub returns-clause-taken : goal.returns-clause-taken
returns-clause-taken c =
    rw (c.consume.ensures.held, ← c.self.view_is) (ap (λ (n : ℕ). c.self.inside.held.taken + n) (count_is c))

pub returns-clause-bounded : goal.returns-clause-bounded
returns-clause-bounded c =
    let was = bounded _ c.self.invariant in
    let rest : length c.consume.new.self.bytes ≡ length c.self.inside.held.bytes - c.min-count.result =
    ap (λ (held : Sparse). length held.bytes) c.consume.ensures.held
    ∙ length-drop c.min-count.result c.self.inside.held.bytes in
    (omega (arith, was.0, rest), few_gaps c.consume.new.self c.consume.ensures.sound)
