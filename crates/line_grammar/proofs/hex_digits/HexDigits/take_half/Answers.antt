use Rattle.std.proofs.Common.{refl, ◌∙◌, sym, ap, ◌+◌, [], ◌∷◌, ◌++◌, None, append_assoc}
use Rattle.line_grammar.specs.declared.hex_digits.HexDigits.{HexDigits}
use Rattle.line_grammar.proofs.DigitLemmas.{from_half, on_same, pairs_read, pairs_refused}
use Rattle.line_grammar.proofs.hex_digits.HexDigits.take_half.Goals as goal

pub returns-then-not-decode_at-clause-reads : goal.returns-then-not-decode_at-clause-reads
returns-then-not-decode_at-clause-reads c prefix reads =
    let low = c.in-Some.low.now in
    let later = c.in-Some.later.now in
    pairs_refused prefix c.args.self c.args.frame.now reads c.args.bytes.now
    (c.args.high ∷ low ∷ []) later
    (from_half c.args.self.half c.args.high c.args.bytes.now (low ∷ later) c.requires.half
    c.in-Some.ensures.cases.0) refl c.decode_at.result c.decode_at.new.room c.decode_at.ensures
    c.if-not-decode_at.true

pub returns-clause-reads : goal.returns-clause-reads
returns-clause-reads c prefix reads =
    let low = c.in-Some.low.now in
    let later = c.in-Some.later.now in
    let whole : HexDigits = record {
      channel = c.args.self.channel;
      len = c.args.self.len + 1;
      pairs = c.args.self.pairs + 1;
      half = None;
    } in
    let pair = pairs_read prefix c.args.self c.args.frame.now reads (low ∷ [])
    (c.args.high ∷ low ∷ []) []
    (from_half c.args.self.half c.args.high (low ∷ []) (low ∷ []) c.requires.half refl) refl
    c.decode_at.result c.decode_at.new.room c.decode_at.ensures c.if-not-decode_at.false
    whole refl refl refl refl in
    on_same ((prefix ++ low ∷ []) ++ later) (prefix ++ c.args.bytes.now) c.take_pairs.new.frame
    c.take_pairs.result
    (append_assoc prefix (low ∷ []) later ∙ ap (λ l. prefix ++ l) (sym c.in-Some.ensures.cases.0))
    (c.take_pairs.ensures.reads (prefix ++ low ∷ []) pair)
