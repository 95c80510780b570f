use Rattle.etherparse.proofs.CallAnswers.{memory_errors_are_reported}
use Rattle.etherparse.proofs.laws.defrag.reassemblies.memory_errors_are_reported.Goals as goal

pub returns : goal.returns
returns c = memory_errors_are_reported
