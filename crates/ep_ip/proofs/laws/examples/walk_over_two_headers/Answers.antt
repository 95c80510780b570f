use Rattle.std.proofs.Common.{rules, [], ◌∷◌, ◌++◌, replicate}
use Rattle.ep_ip.specs.Examples.{two_headers}
use Rattle.ep_ip.proofs.laws.examples.walk_over_two_headers.Goals as goal

pub returns-clause-answer : goal.returns-clause-answer
returns-clause-answer c =
    c.skip_follows_every_walk.ensures.answer 0
    (60 ∷ (replicate 7 0 ++ 17 ∷ (replicate 7 0 ++ 170 ∷ 187 ∷ []))) two_headers 17
    (170 ∷ 187 ∷ []) (search rules)
