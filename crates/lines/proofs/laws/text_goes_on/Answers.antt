use Rattle.std.proofs.Common.{ap}
use Rattle.lines.specs.Lines.{Split}
use Rattle.lines.proofs.AnswersLemmas.{ended-append, answers_to_text-parts, answers_to_ended-append}
use Rattle.lines.proofs.SplitLemmas.{split-append}
use Rattle.lines.proofs.laws.text_goes_on.Goals as goal

pub returns-clause-rest : goal.returns-clause-rest
returns-clause-rest c a b = ap (λ (s : Split). s.rest) (split-append a b)

pub returns-clause-ended : goal.returns-clause-ended
returns-clause-ended c a b = ended-append a b

pub returns-clause-answers : goal.returns-clause-answers
returns-clause-answers c m a b = answers_to_ended-append m a b

pub returns-clause-end : goal.returns-clause-end
returns-clause-end c m a = answers_to_text-parts m a
