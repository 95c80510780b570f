use Rattle.std.proofs.Common.{arith, ◌≡◌, ◌∙◌, ◌++◌, ◌∷◌, ◌/◌, [], false, sym, ap, append_assoc}
use Rattle.std.specs.Fmt.{digits}
use Rattle.header_descriptions.proofs.HexLemmas.{more_digits}
use Rattle.header_descriptions.proofs.show.byte_lines.+append_number.Goals as goal

pub returns : goal.returns
returns t c =
    let start = c.args.out.now.items in
    let before = digits 16 false (c.args.n / 16) in
    c.in_ok-extend_from_slice.ensures.items
    ∙ ap (λ l. l ++ c.digit-2.result ∷ []) c.in_ok-append_number.ensures
    ∙ append_assoc start before _
    ∙ ap (λ d. start ++ (before ++ d ∷ [])) c.digit-2.ensures
    ∙ ap (λ l. start ++ l) (sym (more_digits c.args.n (omega arith) (omega arith)))
