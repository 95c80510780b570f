use Rattle.std.proofs.Common.{rules, ap, ◌≡◌, ◌∷◌, length, List, ℕ}
use Rattle.std.specs.Int.{to_be_bytes, w16}
use Rattle.captures.proofs.FramedLemmas.{six_bytes}
use Rattle.captures.proofs.link.header.Header.to_bytes.Goals as goal

pub returns : goal.returns
returns c =
    let source = c.args.self.now.source in
    let six : length source ≡ 6 = search rules in
    rw c.to_be_bytes-ether_type.ensures
    (ap (λ (l : List ℕ). 0 ∷ 0 ∷ 0 ∷ 0 ∷ 0 ∷ 0 ∷ l)
    (six_bytes source (to_be_bytes w16 c.args.self.now.ether_type) six))
