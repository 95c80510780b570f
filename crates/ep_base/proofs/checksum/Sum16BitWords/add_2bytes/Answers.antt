use Rattle.std.proofs.Common.{◌∙◌}
use Rattle.ep_base.proofs.Totals.{text_more}
use Rattle.ep_base.proofs.checksum.Sum16BitWords.add_2bytes.Goals as goal

pub returns-clause-text : goal.returns-clause-text
returns-clause-text c = λ text even so. text_more _ _ text c.args.value c.add_2bytes.ensures even
    (c.self.view_is ∙ so)
