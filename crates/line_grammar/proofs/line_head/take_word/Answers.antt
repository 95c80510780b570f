use Rattle.std.proofs.Common.{sym, codes}
use Rattle.line_grammar.proofs.DigitLemmas.{on_same}
use Rattle.line_grammar.proofs.WordLemmas.{other_words, word_read}
use Rattle.line_grammar.proofs.line_head.take_word.Goals as goal

pub returns-in-Some-clause-reads : goal.returns-in-Some-clause-reads
returns-in-Some-clause-reads c =
    on_same _ _ c.take_channel.new.frame c.take_channel.result (sym c.in-Some.ensures)
    (c.take_channel.ensures.reads (codes "frame ") (word_read _ c.new.result c.new.ensures.number))

pub returns-in-Whole-clause-reads : goal.returns-in-Whole-clause-reads
returns-in-Whole-clause-reads c =
    on_same _ _ c.take_channel-in-Whole.new.frame c.take_channel-in-Whole.result
    (sym c.in-Whole.ensures)
    (c.take_channel-in-Whole.ensures.reads (codes "frame ")
    (word_read _ c.new-in-Whole.result c.new-in-Whole.ensures.number))

pub returns-in-Whole-read_word-clause-reads : goal.returns-in-Whole-read_word-clause-reads
returns-in-Whole-read_word-clause-reads c =
    on_same _ _ c.args.frame.now c.take_line.result (sym c.in-Whole-read_word.ensures)
    (c.take_line.ensures.reads (codes "forget ") c.args.frame.now
    (word_read _ c.new-in-Whole-read_word.result c.new-in-Whole-read_word.ensures.number))

pub returns-in-Other-read_word-clause-reads : goal.returns-in-Other-read_word-clause-reads
returns-in-Other-read_word-clause-reads c =
    other_words _ c.in-Other.ensures c.in-Other-read_word.ensures
