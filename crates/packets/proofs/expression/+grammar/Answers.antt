use Rattle.std.proofs.Common.{◌≡◌, ◌∷◌, arith}
use Rattle.packets.specs.declared.expression.Word.TheVariants as word
use Rattle.packets.proofs.GrammarLemmas.{reads_and, reads_joint, reads_not, reads_or, reads_parentheses, reads_single}
use Rattle.packets.proofs.GrammarLemmas.{reads_test}
use Rattle.packets.proofs.expression.+grammar.Goals as goal

pub read_alternatives-returns-in_ok-either-in-Some-Or-default-clause-reads : goal.read_alternatives-returns-in_ok-either-in-Some-Or-default-clause-reads
read_alternatives-returns-in_ok-either-in-Some-Or-default-clause-reads t c =
    let same : c.in_ok-first.after.now ≡ word.Or ∷ c.in-Some-Or-default.later.now = grind arith in
    rw c.in_ok-either-in-Some-Or-default.ensures
    (reads_or _ _ _ _ _ _ c.in_ok-first.ensures.reads same c.in_ok-second-in-Some-Or-default.ensures.reads)

pub read_alternatives-returns-in_default-clause-reads : goal.read_alternatives-returns-in_default-clause-reads
read_alternatives-returns-in_default-clause-reads t c = reads_joint _ _ _ c.in_ok-first.ensures.reads

pub read_joint-returns-in_ok-both-in-Some-And-default-clause-reads : goal.read_joint-returns-in_ok-both-in-Some-And-default-clause-reads
read_joint-returns-in_ok-both-in-Some-And-default-clause-reads t c =
    let same : c.in_ok-first.after.now ≡ word.And ∷ c.in-Some-And-default.later.now = grind arith in
    rw c.in_ok-both-in-Some-And-default.ensures
    (reads_and _ _ _ _ _ _ c.in_ok-first.ensures.reads same c.in_ok-second-in-Some-And-default.ensures.reads)

pub read_joint-returns-in_default-clause-reads : goal.read_joint-returns-in_default-clause-reads
read_joint-returns-in_default-clause-reads t c = reads_single _ _ _ c.in_ok-first.ensures.reads

pub read_single-returns-in-Test-clause-reads : goal.read_single-returns-in-Test-clause-reads
read_single-returns-in-Test-clause-reads t c =
    let same : c.args.words.now ≡ word.Test c.in-Test.condition ∷ c.in-Some.later.now = grind arith in
    reads_test _ _ _ same

pub read_single-returns-in_ok-negated-in-Not-clause-reads : goal.read_single-returns-in_ok-negated-in-Not-clause-reads
read_single-returns-in_ok-negated-in-Not-clause-reads t c =
    let same : c.args.words.now ≡ word.Not ∷ c.in-Some.later.now = grind arith in
    rw c.in_ok-negated-in-Not.ensures (reads_not _ _ _ _ same c.in_ok-inner-in-Not.ensures.reads)

pub read_single-returns-in-Some-Close-default-clause-reads : goal.read_single-returns-in-Some-Close-default-clause-reads
read_single-returns-in-Some-Close-default-clause-reads t c =
    let same : c.args.words.now ≡ word.Open ∷ c.in-Some.later.now = grind arith in
    let closed : c.in_ok-inner-in-Open.after.now ≡ word.Close ∷ c.in-Some-Close-default.rest.now = grind arith in
    reads_parentheses _ _ _ _ _ same c.in_ok-inner-in-Open.ensures.reads closed
