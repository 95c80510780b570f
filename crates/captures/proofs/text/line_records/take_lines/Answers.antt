use Rattle.std.proofs.Common.{rules, arith, ◌≡◌, ◌∙◌, ◌+◌, ◌-◌, ◌<◌, sym, ap, subst, length, take, drop, ℕ, List}
use Rattle.std.proofs.Common.{Some, None}
use Rattle.std.proofs.lemmas.List.{length-drop}
use Rattle.captures.specs.CapturedFrames.{captured_frame_of, fault_of}
use Rattle.captures.proofs.TextLemmas.{taking_line, found_line, none_found, left_line, left_bad}
use Rattle.captures.proofs.text.line_records.take_lines.Goals as goal
use Rattle.lines.proofs.Feeding.{after_line}

pub returns-in_default-append_record-clause-takes : goal.returns-in_default-append_record-clause-takes
returns-in_default-append_record-clause-takes c =
    let taking = c.lines.invariant.taking in
    let rest = c.lines.rest.now in
    let found = found_line rest c.in-Some.end (sym c.newline_in.ensures ∙ c.in-Some.is) in
    let none = subst (λ (l : List ℕ). captured_frame_of l ≡ None) c.split_at.ensures.front
    c.in_default-append_record.ensures.record in
    let why = subst (λ (l : List ℕ). fault_of l ≡ c.fault_in.result) c.split_at.ensures.front
    (sym c.fault_in.ensures.fault) in
    record {
      frames = taking.frames;
      gives_frames = taking.gives_frames;
      encoded = c.fault_in.ensures.same ∙ c.in_default-append_record.ensures.same ∙ taking.encoded;
      left = left_bad rest (take c.in-Some.end rest) (drop (c.in-Some.end + 1) rest) _ found.1
          found.0 none why;
    }

pub lines-preserved : goal.lines-preserved
lines-preserved c =
    let taking = c.lines.invariant.taking in
    let room = c.lines.invariant.room in
    let few = c.lines.invariant.few in
    let rest = c.lines.rest.now in
    let end = c.in-Some.end in
    let found = found_line rest end (sym c.newline_in.ensures ∙ c.in-Some.is) in
    let lt : end < length rest = search rules in
    let record' = c.in-Some-append_record.ensures.record in
    let is = subst (λ (l : List ℕ). captured_frame_of l ≡ Some record'.0)
    c.split_at.ensures.front record'.1 in
    let after : take (length c.split_at.result.1.now - 1) (drop 1 c.split_at.result.1.now)
    ≡ drop (end + 1) rest =
    ap (λ (l : List ℕ). take (length l - 1) (drop 1 l)) c.split_at.ensures.back
    ∙ after_line rest end lt in
    let most = c.in-Some-append_record.ensures.end in
    let line = c.split_at.ensures.front_len in
    let sizes = ap length found.1 in
    let left = length-drop (end + 1) rest in
    rw after (record {
      taking = taking_line c.args.time_unit c.args.bytes.now rest (take end rest)
          (drop (end + 1) rest) _ _ c.lines.count record'.0 taking found.1 found.0 is record'.2;
      room = omega arith;
      few = omega arith;
    })

pub returns-clause-takes : goal.returns-clause-takes
returns-clause-takes c =
    let taking = c.lines.invariant.taking in
    record {
      frames = taking.frames;
      gives_frames = taking.gives_frames;
      encoded = taking.encoded;
      left = rw c.fault_of_length.ensures (left_line c.lines.rest.now
          (none_found c.lines.rest.now (sym c.newline_in.ensures ∙ c.in_default.is)));
    }
