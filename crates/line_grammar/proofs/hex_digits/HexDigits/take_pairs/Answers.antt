use Rattle.std.proofs.Common.{refl, ◌≡◌, ◌∙◌, ◌%◌, length, arith}
use Rattle.line_grammar.specs.Prefixes.{half_digit}
use Rattle.line_grammar.proofs.DigitLemmas.{cut_text, from_pair, half_left, pairs_read, pairs_refused}
use Rattle.line_grammar.proofs.hex_digits.HexDigits.take_pairs.Goals as goal

pub returns-then-not-decode_at-clause-reads : goal.returns-then-not-decode_at-clause-reads
returns-then-not-decode_at-clause-reads c prefix reads =
    let whole = c.split_at.result.0.now in
    let odd = c.split_at.result.1.now in
    let even : length whole % 2 ≡ 0 = omega (arith, c.split_at.ensures.front_len) in
    pairs_refused prefix c.args.self c.args.frame.now reads c.args.bytes.now whole odd
    (from_pair c.args.self.half c.args.bytes.now _ c.requires.half
    (cut_text c.args.bytes.now whole odd _ c.split_at.ensures.front c.split_at.ensures.back)) even
    c.decode_at.result c.decode_at.new.room c.decode_at.ensures c.if-not-decode_at.true

pub returns-clause-reads : goal.returns-clause-reads
returns-clause-reads c prefix reads =
    let whole = c.split_at.result.0.now in
    let odd = c.split_at.result.1.now in
    let size = c.split_at.ensures.front_len in
    let even : length whole % 2 ≡ 0 = omega (arith, size) in
    let left : half_digit c.copied.result ≡ odd =
    half_left odd c.copied.result (omega (arith, c.split_at.ensures.back_len))
    (c.copied.ensures ∙ c.first.ensures.value) in
    pairs_read prefix c.args.self c.args.frame.now reads c.args.bytes.now whole odd
    (from_pair c.args.self.half c.args.bytes.now _ c.requires.half
    (cut_text c.args.bytes.now whole odd _ c.split_at.ensures.front c.split_at.ensures.back)) even
    c.decode_at.result c.decode_at.new.room c.decode_at.ensures c.if-not-decode_at.false
    _ refl refl (omega (arith, size)) left
