use Rattle.std.proofs.Common.{rules, arith, ◌≡◌, ◌∙◌, sym, ap, drop}
use Rattle.captures.proofs.ClockLemmas.{long_enough, options_end, options_more}
use Rattle.captures.proofs.time.clock.Clock.of.Goals as goal

pub options-preserved : goal.options-preserved
options-preserved c =
    let rest = c.options.rest.now in
    let order = c.args.order in
    let more = sym c.ends_options.ensures ∙ c.options-test.true in
    let long = long_enough order rest more in
    let back : c.split_at.result.1.now ≡ drop c.min-len.result rest = c.split_at.ensures.back in
    rw c.with_option-clock.ensures
    (options_more c.options.invariant.0 order rest c.split_at.result.1.now c.options.clock _
    c.options.invariant.1 c.options.invariant.2 more long
    (back ∙ ap (λ n. drop n rest) (search rules)) (search (rules, arith)))

pub returns : goal.returns
returns c =
    options_end c.options.invariant.0 c.args.order c.options.rest.now c.options.clock _
    c.options.invariant.2 (sym c.ends_options.ensures ∙ c.options-test.false)
