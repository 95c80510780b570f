use Rattle.packets.proofs.EscapeLemmas.{escaped-read}
use Rattle.packets.proofs.laws.escaped_texts_are_read.Goals as goal

pub returns : goal.returns
returns c = escaped-read
