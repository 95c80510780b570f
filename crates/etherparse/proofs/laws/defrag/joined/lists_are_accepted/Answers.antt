use Rattle.etherparse.proofs.JoinedDatagrams.{call_accepted, calls_accepted, frame_accepted}
use Rattle.etherparse.proofs.laws.defrag.joined.lists_are_accepted.Goals as goal

pub returns-clause-frame : goal.returns-clause-frame
returns-clause-frame c = frame_accepted

pub returns-clause-call : goal.returns-clause-call
returns-clause-call c = call_accepted

pub returns-clause-calls : goal.returns-clause-calls
returns-clause-calls c = calls_accepted
