use Rattle.std.proofs.Common.{◌++◌, ◌+◌, ◌≤◌, ℕ, List, length}
use Rattle.lines.specs.LineAnswers.{Started}
use Rattle.lines.proofs.Feeding.{Fed}
use Rattle.lines.proofs.line_answerer.LineAnswerer.feed.Given as goal

-- Whatever the chunk goes on from, the answers to the lines before what is left are gathered; and
-- each of these lines had a byte.
abbrev pub invariant-lines : goal.invariant-lines
invariant-lines g l = record {
  fed : (earlier : List (List ℕ)) (start : List ℕ)
      → Started (g.A.Answerer.shows l.initial.self.answerer) l.initial.self.count
      l.initial.self.has_started earlier start
      → Fed g.D.Device.transition g.A.Answerer.meaning l.initial.device earlier
      (start ++ l.chunk) l.rest l.self.answers l.self.count l.self.has_started
      (g.A.Answerer.shows l.self.answerer) l.device;
  few : l.self.count + length l.rest ≤ l.initial.self.count + length l.chunk;
}

abbrev pub decreases-lines : goal.decreases-lines
decreases-lines g l = length l.rest
