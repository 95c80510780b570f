use Rattle.std.proofs.Common.{arith, length-append, ap, ◌∙◌, ◌++◌}
use Rattle.ep_base.specs.Sum.{fold}
use Rattle.ep_base.proofs.MessageSums.{total-zero_word}
use Rattle.ep_base.proofs.checksum.message.message_sum.Goals as goal

pub returns-clause-text : goal.returns-clause-text
returns-clause-text c = λ prefix sums.
    let both = length-append prefix c.args.header.now in
    c.add_slice-2.ensures.text _ (omega (arith, sums.whole))
    (c.add_slice.ensures.text prefix sums.whole sums.folded)

pub returns-clause-around : goal.returns-clause-around
returns-clause-around c = λ prefix sums.
    let both = length-append prefix c.args.header.now in
    c.add_slice-2.ensures.text _ (omega (arith, sums.whole))
    (c.add_slice.ensures.text prefix sums.whole sums.folded)
    ∙ ap fold (total-zero_word (prefix ++ c.args.header.now) c.args.payload.now
    (omega (arith, sums.whole)))
