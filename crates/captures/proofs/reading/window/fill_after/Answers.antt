use Rattle.std.proofs.Common.{rules}
use Rattle.captures.proofs.WindowLemmas.{filled, filled_bound, filled_none}
use Rattle.captures.proofs.reading.window.fill_after.Goals as goal

pub returns-clause-given : goal.returns-clause-given
returns-clause-given g c =
    filled c.args.input.now c.copy_within.new.self c.read.new.buf c.args.start c.args.end
    c.requires.ordered c.requires.fits (search rules) c.copy_within.ensures.after (search rules)
    c.read.result _ _ c.requires.room c.read.ensures.bound c.read.ensures.bytes

pub returns-clause-bound : goal.returns-clause-bound
returns-clause-bound g c =
    filled_bound c.args.input.now c.copy_within.new.self c.read.new.buf c.args.start c.args.end
    c.requires.ordered c.requires.fits (search rules) c.copy_within.ensures.after (search rules)
    c.read.result c.read.ensures.bound

pub returns-clause-failed : goal.returns-clause-failed
returns-clause-failed g c =
    filled_none c.args.input.now c.copy_within.new.self c.read.new.buf c.args.start c.args.end
    c.requires.ordered c.requires.fits (search rules) c.copy_within.ensures.after (search rules)
    c.read.result _ _ c.read.ensures.bytes
