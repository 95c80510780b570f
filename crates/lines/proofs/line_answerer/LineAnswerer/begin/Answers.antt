use Rattle.std.proofs.Common.{◌∙◌, sym, subst, List, ℕ}
use Rattle.lines.proofs.LineLemmas.{begins_more, no_bytes}
use Rattle.lines.proofs.SplitLemmas.{HasNoNewline-append}
use Rattle.lines.specs.LineAnswers.{Started}
use Rattle.lines.proofs.line_answerer.LineAnswerer.begin.Goals as goal

pub returns-then-is_empty-clause-started : goal.returns-then-is_empty-clause-started
returns-then-is_empty-clause-started g c earlier prefix started none =
    subst (λ (l : List ℕ). Started (g.A.Answerer.shows c.args.self.now.answerer)
    c.args.self.now.count c.args.self.now.has_started earlier l)
    (sym (no_bytes prefix c.args.bytes.now (sym c.is_empty.ensures ∙ c.if-is_empty.true))) started

pub returns-clause-started : goal.returns-clause-started
returns-clause-started g c earlier prefix started none = record {
  shows = c.take.ensures earlier prefix started.shows;
  counted = started.counted;
  begins = begins_more prefix c.args.bytes.now (sym c.is_empty.ensures ∙ c.if-is_empty.false);
  unended = HasNoNewline-append prefix c.args.bytes.now started.unended none;
}
