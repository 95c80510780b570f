use Rattle.std.proofs.Common.{ap, ◌+◌}
use Rattle.lines.proofs.line_answerer.LineAnswerer.end_line.Goals as goal

pub returns-clause-gathers : goal.returns-clause-gathers
returns-clause-gathers g c earlier prefix started =
    c.push.ensures.gathers earlier _ (c.take.ensures earlier prefix started.shows)
    (ap (λ n. n + 1) started.counted)

pub returns-clause-shows : goal.returns-clause-shows
returns-clause-shows g c earlier prefix started =
    c.push.ensures.shows earlier _ (c.take.ensures earlier prefix started.shows)
    (ap (λ n. n + 1) started.counted)
