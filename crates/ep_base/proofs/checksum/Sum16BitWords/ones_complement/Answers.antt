use Rattle.std.proofs.Common.{◌-◌, ap, ◌∙◌}
use Rattle.std.specs.Int.{swap_bytes, w16}
use Rattle.ep_base.specs.Sum.{total}
use Rattle.ep_base.proofs.Folds.{swap_bytes_complement_zero}
use Rattle.ep_base.proofs.checksum.Sum16BitWords.ones_complement.Goals as goal

pub returns-clause-all_ones : goal.returns-clause-all_ones
returns-clause-all_ones c =
    λ text so. swap_bytes_complement_zero (total text) _
    (c.ones_complement.ensures ∙ ap (λ sum. swap_bytes w16 (65535 - sum)) (c.self.view_is ∙ so))
