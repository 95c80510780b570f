use Rattle.std.proofs.Common.{◌∙◌, ◌-◌, ◌≤◌, ap, arith, length}
use Rattle.captures.specs.Dropped.{last_of}
use Rattle.captures.specs.Held.{HeldBytes}
use Rattle.captures.proofs.WindowLemmas.{held_last, held_len}
use Rattle.captures.proofs.reading.window.Window.keep.Goals as goal

pub returns-clause-held : goal.returns-clause-held
returns-clause-held c =
    let w = c.self.inside in
    let all = w.input.ok.0 in
    let i = c.self.invariant in
    let same = ap (λ (h : HeldBytes). length h.held) c.self.view_is in
    let size = held_len w.input.items w.start w.end i.1 (omega arith) in
    let few : c.args.left ≤ w.end - w.start = omega arith in
    held_last w.input.items w.start w.end c.args.left i.1 (omega arith) few
    ∙ ap (λ (h : HeldBytes). last_of c.args.left h.held) c.self.view_is
