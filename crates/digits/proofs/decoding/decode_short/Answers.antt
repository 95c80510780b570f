use Rattle.std.proofs.Common.{ap, sym, arith, ◌∙◌, get_or, Ok, length}
use Rattle.digits.proofs.Blocks.{short_decoded, short_values}
use Rattle.digits.proofs.decoding.decode_short.Goals as goal

pub returns-clause-decoded : goal.returns-clause-decoded
returns-clause-decoded c t k h i =
    let small = c.are_digit_values.ensures.0 t in
    short_decoded c.args.digits.now c.block_of.result c.values_of-values.result c.bytes_of.result
    (length c.args.bytes.now) c.requires.twice c.requires.short
    c.block_of.ensures c.values_of-values.ensures small (c.bytes_of.ensures.bytes small) k h i
    ∙ ap (λ l. Ok (get_or l k 0)) (sym c.copy_from_slice.ensures.after)

pub returns-clause-refused : goal.returns-clause-refused
returns-clause-refused c f all =
    let t = c.are_digit_values.ensures.1
    (short_values c.args.digits.now c.block_of.result c.values_of-values.result
    (omega arith) c.block_of.ensures c.values_of-values.ensures all) in cc
