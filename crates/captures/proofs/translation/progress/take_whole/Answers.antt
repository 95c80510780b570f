use Rattle.std.proofs.Common.{sym, append-nil}
use Rattle.captures.proofs.translation.progress.take_whole.Goals as goal

pub returns-in-Some-clause-parts : goal.returns-in-Some-clause-parts
returns-in-Some-clause-parts c = (c.args.bytes.now, sym (append-nil c.args.bytes.now))
