use Rattle.std.proofs.Common.{◌∙◌}
use Rattle.ep_base.proofs.Totals.{text_more, whole_words_more}
use Rattle.ep_base.proofs.checksum.Sum16BitWords.add_slice.Goals as goal

pub returns-clause-text : goal.returns-clause-text
returns-clause-text c = λ text even so. text_more _ _ text c.args.slice.now c.add_slice.ensures even
    (c.self.view_is ∙ so)

pub returns-clause-whole_words : goal.returns-clause-whole_words
returns-clause-whole_words c =
    λ text even so. whole_words_more _ _ text c.args.slice.now c.add_slice.ensures even
    (c.self.view_is ∙ so)
