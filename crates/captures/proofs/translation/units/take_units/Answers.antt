use Rattle.std.proofs.Common.{◌∙◌, ◌++◌, ap, arith, take}
use Rattle.captures.specs.Framed.{frame_bytes}
use Rattle.captures.specs.Lines.{noted, reported}
use Rattle.captures.specs.declared.origin.Origin.{Origin}
use Rattle.captures.proofs.FirstPacketLemmas.{reported_all, reported_first}
use Rattle.captures.proofs.translation.units.take_units.Goals as goal

pub lines-preserved : goal.lines-preserved
lines-preserved c =
    let packet = c.in-Some.packet in
    let before = c.lines.invariant in
    let room = c.in-Some.ensures.room in
    let text = take c.lines.used c.lines.out in
    let come = c.lines.noted in
    record {
      reported = reported_first c.args.ledger come _ c.args.state c.lines.packets.state _ c.args.bytes.now
          c.lines.packets.rest.now _ text _ packet before.reported
          c.in-Some.ensures.steps.0
          (c.report-used.ensures.text
          ∙ ap (λ (o : Origin). text ++ reported come (record {
            origin = o;
            frame = frame_bytes packet.frame;
          })) c.origin.ensures)
          (c.report-used.ensures.noted
          ∙ ap (λ (o : Origin). noted come (record {
            origin = o;
            frame = frame_bytes packet.frame;
          })) c.origin.ensures);
      room = omega arith;
      extra = c.report-used.ensures.extra ∙ before.extra;
    }

pub returns-clause-takes : goal.returns-clause-takes
returns-clause-takes c =
    reported_all c.args.ledger c.lines.noted c.args.state c.lines.packets.state _ c.args.bytes.now
    c.lines.packets.rest.now _ (take c.lines.used c.lines.out) _
    c.lines.invariant.reported
    (rw (c.state.ensures, c.rest.ensures, c.refusal.ensures) c.in_default.ensures.steps)
