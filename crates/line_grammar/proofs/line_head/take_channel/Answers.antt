use Rattle.std.proofs.Common.{◌≡◌, ◌∙◌, sym, ap, subst, List, [], ℕ, ◌++◌, ◌∷◌, false, append_assoc}
use Rattle.std.specs.Char.{is_ascii_digit}
use Rattle.line_grammar.specs.Prefixes.{IsWrong}
use Rattle.line_grammar.specs.Numbers.{NoDigit}
use Rattle.line_grammar.proofs.DigitLemmas.{on_same}
use Rattle.line_grammar.proofs.PrefixLemmas.{wrong_more}
use Rattle.line_grammar.proofs.HeadLemmas.{head_and_rest, head_ends, head_goes, no_channel}
use Rattle.line_grammar.proofs.line_head.take_channel.Goals as goal

pub returns-in_default-clause-reads : goal.returns-in_default-clause-reads
returns-in_default-clause-reads c prefix reads =
    no_channel prefix c.args.bytes.now c.args.number reads
    (c.in_default.ensures.reads reads.digits reads.reads)

pub returns-in_default-split_first-clause-reads : goal.returns-in_default-split_first-clause-reads
returns-in_default-split_first-clause-reads c prefix reads =
    let run = c.in-Some.run' in
    let goes = c.in-Some.ensures.reads reads.digits reads.reads in
    head_ends _ prefix c.args.bytes.now run.rest.now c.args.number run.number reads goes.0
    c.in_default-split_first.ensures.cases

pub returns-in-Some-frame_head-clause-reads : goal.returns-in-Some-frame_head-clause-reads
returns-in-Some-frame_head-clause-reads c prefix reads =
    let run = c.in-Some.run' in
    let byte = c.in-Some-split_first.byte.now in
    let digits = c.in-Some-split_first.digits.now in
    let goes = c.in-Some.ensures.reads reads.digits reads.reads in
    let head = head_goes _ prefix c.args.bytes.now run.rest.now c.args.number run.number reads goes.0
    in
    let first = c.in-Some-split_first.ensures.cases.0 in
    let other : is_ascii_digit byte ≡ false = subst NoDigit first goes.1 in
    let before : List ℕ = prefix ++ goes.0.more in
    on_same ((before ++ byte ∷ []) ++ digits) (prefix ++ c.args.bytes.now)
    c.take-in-Some-frame_head.new.frame c.take-in-Some-frame_head.result
    (append_assoc before (byte ∷ []) digits ∙ ap (λ l. before ++ l) (sym first)
    ∙ head_and_rest _ prefix c.args.bytes.now run.rest.now c.args.number run.number reads goes.0)
    (c.take-in-Some-frame_head.ensures.reads (before ++ byte ∷ [])
    (c.in-Some-frame_head.ensures.reads before c.args.frame.now head other))

pub returns-in-None-clause-reads : goal.returns-in-None-clause-reads
returns-in-None-clause-reads c prefix reads =
    let run = c.in-Some.run' in
    let byte = c.in-Some-split_first.byte.now in
    let digits = c.in-Some-split_first.digits.now in
    let goes = c.in-Some.ensures.reads reads.digits reads.reads in
    let head = head_goes _ prefix c.args.bytes.now run.rest.now c.args.number run.number reads goes.0
    in
    let first = c.in-Some-split_first.ensures.cases.0 in
    let other : is_ascii_digit byte ≡ false = subst NoDigit first goes.1 in
    let before : List ℕ = prefix ++ goes.0.more in
    subst IsWrong
    (append_assoc before (byte ∷ []) digits ∙ ap (λ l. before ++ l) (sym first)
    ∙ head_and_rest _ prefix c.args.bytes.now run.rest.now c.args.number run.number reads goes.0)
    (wrong_more (before ++ byte ∷ []) digits
    (c.in-None.ensures.reads before c.args.frame.now head other))
