use Rattle.captures.proofs.ParserLemmas.{match_other}
use Rattle.captures.proofs.reading.packet_parser.started_block.Goals as goal

pub returns : goal.returns
returns c = match_other c.long_block.result _ _ _ (λ less few. less) c.long_block.ensures
