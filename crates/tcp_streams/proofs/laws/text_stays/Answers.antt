use Rattle.tcp_streams.proofs.LawLemmas.{text_stays}
use Rattle.tcp_streams.proofs.laws.text_stays.Goals as goal

pub returns : goal.returns
returns c = text_stays
