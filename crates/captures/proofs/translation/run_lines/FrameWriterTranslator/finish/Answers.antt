use Rattle.std.proofs.Common.{arith, ◌≡◌, ◌<◌, ◌+◌, ◌++◌, ◌∷◌, [], sym, ap, subst, List, ℕ, length, take, slice_set}
use Rattle.std.proofs.Common.{append-nil, Ok}
use Rattle.std.proofs.lemmas.List.{length-take-le, take_more_set}
use Rattle.captures.specs.Texts.{lines_to_capture}
use Rattle.captures.specs.Translations.{Finishes}
use Rattle.captures.proofs.Writing.{Writes, writes_nothing_more, writes_last, writes_last_bad}
use Rattle.captures.proofs.translation.run_lines.FrameWriterTranslator.finish.Goals as goal

pub returns-then-left-eq0-clause-finishes : goal.returns-then-left-eq0-clause-finishes
returns-then-left-eq0-clause-finishes c read written writes fits =
    let none = ap (λ n. take n c.args.input.now) c.if-left-eq0.true in
    subst (λ (l : List ℕ). Finishes (lines_to_capture c.args.self.now.time_unit) read l (Ok tt)) (sym (append-nil written))
    (writes_nothing_more c.args.self.now.time_unit c.args.self.now.count read written
    (subst (λ (l : List ℕ). Writes c.args.self.now.time_unit c.args.self.now.count l read written) none writes))

pub returns-in-Some-clause-finishes : goal.returns-in-Some-clause-finishes
returns-in-Some-clause-finishes c read written writes fits =
    let takes = rw c.in-Some.is at c.take_lines-taken.ensures.takes in
    let left = c.args.left in
    let input = c.args.input.now in
    let room = c.requires.room in
    let more = c.if-left-eq0.false in
    let some : 0 < length (take left input) =
    omega (arith, length-take-le left input (omega arith)) in
    let parts : take (left + 1) (slice_set input left 10) ≡ take left input ++ 10 ∷ [] =
    take_more_set input left 10 room in
    writes_last_bad c.args.self.now.time_unit c.args.self.now.count c.take_lines-taken.result.count _ (take left input)
    (take (left + 1) (slice_set input left 10)) _ read written _ writes some parts fits
    c.saturating_add-self.ensures c.in-Some.fault _ c.next_line.ensures takes

pub returns-clause-finishes : goal.returns-clause-finishes
returns-clause-finishes c read written writes fits =
    let takes = rw c.in_default.is at c.take_lines-taken.ensures.takes in
    let left = c.args.left in
    let input = c.args.input.now in
    let room = c.requires.room in
    let more = c.if-left-eq0.false in
    let some : 0 < length (take left input) =
    omega (arith, length-take-le left input (omega arith)) in
    let parts : take (left + 1) (slice_set input left 10) ≡ take left input ++ 10 ∷ [] =
    take_more_set input left 10 room in
    writes_last c.args.self.now.time_unit c.args.self.now.count c.take_lines-taken.result.count 0 (take left input)
    (take (left + 1) (slice_set input left 10)) _ read written _ writes some parts takes
