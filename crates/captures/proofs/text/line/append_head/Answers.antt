use Rattle.std.proofs.Common.{ap, sym, ◌∙◌, ◌∷◌, ◌++◌, ◌<◌, [], take, List, ℕ}
use Rattle.std.proofs.lemmas.Fmt.{decimal_digit}
use Rattle.captures.proofs.text.line.append_head.Goals as goal

pub returns-then-channel-lt10-clause-text : goal.returns-then-channel-lt10-clause-text
returns-then-channel-lt10-clause-text c =
    let few : c.args.channel < 10 = c.if-channel-lt10.true in
    c.append.ensures.text
    ∙ ap (λ (l : List ℕ). take c.args.used c.args.out.now
    ++ (102 ∷ 114 ∷ 97 ∷ 109 ∷ 101 ∷ 32 ∷ (l ++ (32 ∷ []))))
    (sym (decimal_digit c.args.channel few))
