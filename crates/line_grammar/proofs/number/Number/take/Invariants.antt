use Rattle.std.proofs.Common.{◌≤◌, ℕ, List, length}
use Rattle.line_grammar.specs.Numbers.{GoesOn, ReadsNumber}
use Rattle.line_grammar.proofs.number.Number.take.Given as goal

abbrev pub invariant-digits : goal.invariant-digits
invariant-digits l = record {
  few : l.number.count ≤ l.most;
  reads : (digits : List ℕ) → ReadsNumber digits l.initial.number
      → GoesOn digits l.bytes l.number l.rest;
}

abbrev pub decreases-digits : goal.decreases-digits
decreases-digits l = length l.rest
