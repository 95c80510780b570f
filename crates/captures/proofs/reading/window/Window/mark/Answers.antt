use Rattle.std.proofs.Common.{◌∙◌, ◌-◌, ◌≤◌, ap, arith, length, take}
use Rattle.captures.specs.Dropped.{last_of}
use Rattle.captures.specs.Held.{HeldBytes}
use Rattle.captures.proofs.WindowLemmas.{held_len, marked_last}
use Rattle.captures.proofs.reading.window.Window.mark.Goals as goal

pub returns-clause-marked : goal.returns-clause-marked
returns-clause-marked c =
    let w = c.self.inside in
    let all = w.input.ok.0 in
    let i = c.self.invariant in
    let same = ap (λ (h : HeldBytes). length h.held) c.self.view_is in
    let size = held_len w.input.items w.start w.end i.1 (omega arith) in
    let few : c.args.from ≤ w.end - w.start = omega arith in
    marked_last w.input.items w.start w.end c.args.from c.args.len i.1 (omega arith) few
    c.requires.len
    ∙ ap (λ (h : HeldBytes). take c.args.len (last_of c.args.from h.held)) c.self.view_is
