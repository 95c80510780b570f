use Rattle.std.proofs.Common.{rules, ◌∙◌, sym}
use Rattle.digits.proofs.Numerals.{digits_are_text, text_is}
use Rattle.captures.proofs.WireLemmas.{word_parsed}
use Rattle.captures.proofs.text.line_words.number.Goals as goal

pub returns-in_err-ok : goal.returns-in_err-ok
returns-in_err-ok c =
    absurd (digits_are_text c.args.digits.now _ _ c.from_utf8.result
    (search rules) c.from_utf8.ensures.cases (sym c.ok.ensures.value ∙ c.in_err-ok.was))

pub returns : goal.returns
returns c =
    let text = text_is c.args.digits.now _ c.from_utf8.result c.in_ok-ok.field-0
    c.from_utf8.ensures.cases (sym c.ok.ensures.value ∙ c.in_ok-ok.was) in
    c.ok-2.ensures.value ∙ word_parsed c.args.digits.now c.parse.result (search rules)
    (search rules) (search rules) (rw text at c.parse.ensures.value.0)
