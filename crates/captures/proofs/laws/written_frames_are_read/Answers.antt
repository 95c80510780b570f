use Rattle.captures.proofs.EncodingLemmas.{capture_is}
use Rattle.captures.proofs.laws.written_frames_are_read.Goals as goal

pub returns : goal.returns
returns c = λ frames all unfit time_unit. capture_is unfit time_unit frames all
