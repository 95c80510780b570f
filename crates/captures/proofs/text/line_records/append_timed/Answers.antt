use Rattle.std.proofs.Common.{rules, arith, ◌∙◌, ap, ap₂, Some, length, ℕ, ◌/◌, inl, inr}
use Rattle.line_grammar.specs.Commands.{frame_on}
use Rattle.line_grammar.specs.TimedLines.{frame_at}
use Rattle.captures.specs.Encoding.{record_head}
use Rattle.captures.proofs.RecordLemmas.{no_frame_at, decoded, frame_is, record_put}
use Rattle.captures.proofs.text.line_records.append_timed.Goals as goal
use Rattle.captures.proofs.text.line_records.append_timed.Goals.{then-len-eq0-via-then-len-eq0}
use Rattle.captures.proofs.text.line_records.append_timed.Goals.{then-len-eq0-via-else-len-eq0+then-len-gt-FRAME_LIMIT}

pub returns-then-len-eq0-clause-record : goal.returns-then-len-eq0-clause-record
returns-then-len-eq0-clause-record c =
    let line = c.in_ok-line.line in
    elim c.then-len-eq0.branch [
      | then-len-eq0-via-then-len-eq0 w ↦
          c.in_ok-line.ensures.frame ∙ no_frame_at line.time line.channel line.digits.now (inl (omega arith))
      | then-len-eq0-via-else-len-eq0+then-len-gt-FRAME_LIMIT w ↦
          c.in_ok-line.ensures.frame ∙ no_frame_at line.time line.channel line.digits.now (inr (omega arith))
    ]

pub returns-then-decode-clause-record : goal.returns-then-decode-clause-record
returns-then-decode-clause-record c =
    let line = c.in_ok-line.line in
    let n = length line.digits.now / 2 in
    let found = decoded line.digits.now c.decode.new.bytes n c.decode.result
    (search rules) c.if-decode.true in
    let time = line.time in (
      record {
        seconds = time.seconds;
        nanoseconds = time.nanoseconds;
        frame = c.decode.new.bytes;
      },
      c.in_ok-line.ensures.frame
          ∙ ap (λ d. frame_at (Some time) (frame_on line.channel d)) found.0
          ∙ frame_is time line.channel c.decode.new.bytes (omega arith) (omega arith),
      record_put c.args.time_unit c.args.out.now c.append-start.new.out c.decode.new.bytes c.record_head-head.result
          c.args.used c.append-start.result n _ time c.args.wire_len (search rules) found.1
          (omega arith) c.append-start.ensures.text
          (c.record_head-head.ensures
          ∙ ap₂ (λ (k w : ℕ). record_head time.seconds k n w) (search rules) (search rules)),
    )
