-- What is known of the prefix of a line that its reader has taken.
use Rattle.std.specs.Prelude.{ℕ, List}
use Rattle.line_grammar.specs.Prefixes.{ReadsAt}
use Rattle.line_grammar.specs.declared.line_reader.LineReader.{LineReader}

abbrev pub Reads : List ℕ → LineReader → Type 0
Reads prefix reader = ReadsAt prefix reader.state reader.frame.items
