use Rattle.captures.proofs.CapturedLemmas.{captured_packets_have_lines}
use Rattle.captures.proofs.laws.captured_packets_have_lines.Goals as goal

pub returns : goal.returns
returns c = captured_packets_have_lines
