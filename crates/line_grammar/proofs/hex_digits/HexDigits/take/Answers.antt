use Rattle.std.proofs.Common.{arith}
use Rattle.line_grammar.proofs.PrefixLemmas.{long_line}
use Rattle.line_grammar.proofs.hex_digits.HexDigits.take.Goals as goal

pub returns-then-bytes-self-clause-reads : goal.returns-then-bytes-self-clause-reads
returns-then-bytes-self-clause-reads c prefix reads =
    let size = reads.size in
    let short = c.requires.fits.0 in
    long_line prefix c.args.bytes.now (omega arith)
