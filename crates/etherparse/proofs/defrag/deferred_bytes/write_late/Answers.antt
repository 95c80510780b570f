use Rattle.etherparse.proofs.LateWrites.{with_none}
use Rattle.etherparse.proofs.defrag.deferred_bytes.write_late.Goals as goal

pub returns-in_default-clause-bytes : goal.returns-in_default-clause-bytes
returns-in_default-clause-bytes c = with_none c.args.late c.args.written.now.items c.in_default.is
