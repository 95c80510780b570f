use Rattle.std.proofs.Common.{rules, ap, sym, ◌≡◌, ◌∙◌, ◌∷◌, ◌++◌, [], append_assoc, length, List, ℕ}
use Rattle.std.specs.Int.{to_be_bytes, w16}
use Rattle.captures.proofs.FramedLemmas.{six_bytes}
use Rattle.captures.proofs.link.header.Header.block.Goals as goal

pub returns : goal.returns
returns c =
    let source = c.args.self.now.source in
    let six : length source ≡ 6 = search rules in
    let ether_type = to_be_bytes w16 c.args.self.now.ether_type in
    let bytes = c.to_bytes.ensures
    ∙ ap (λ (l : List ℕ). 0 ∷ 0 ∷ 0 ∷ 0 ∷ 0 ∷ 0 ∷ l) (sym (six_bytes source ether_type six)) in
    rw bytes
    (ap (λ (l : List ℕ). 0 ∷ 0 ∷ 0 ∷ 0 ∷ 0 ∷ 0 ∷ l)
    (six_bytes source (ether_type ++ (0 ∷ 0 ∷ [])) six
    ∙ sym (append_assoc source ether_type (0 ∷ 0 ∷ []))))
