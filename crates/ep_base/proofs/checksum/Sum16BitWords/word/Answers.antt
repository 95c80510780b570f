use Rattle.std.proofs.Common.{◌≡◌, ap, sym, ◌∙◌, arith}
use Rattle.std.specs.Int.{swap_bytes, w16}
use Rattle.ep_base.proofs.Folds.{fold_of_swap_bytes}
use Rattle.ep_base.proofs.checksum.Sum16BitWords.word.Goals as goal

pub returns : goal.returns
returns c =
    let turn : c.swap_bytes.result ≡ swap_bytes w16 c.to_word.result =
    omega (arith, c.swap_bytes.ensures) in
    turn ∙ ap (swap_bytes w16) c.to_word.ensures
    ∙ sym (fold_of_swap_bytes c.self.inside.sum) ∙ c.self.view_is
