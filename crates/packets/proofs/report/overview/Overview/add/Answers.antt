use Rattle.std.proofs.Common.{sym}
use Rattle.packets.specs.Flows.{outlines}
use Rattle.packets.specs.Overviews.{refused_count}
use Rattle.packets.specs.declared.outline.Outline.{Outline}
use Rattle.packets.proofs.FlowLemmas.{outlined, outlines-end}
use Rattle.packets.proofs.report.overview.Overview.add.Goals as goal

pub returns-clause-ok : goal.returns-clause-ok
returns-clause-ok g c = λ packets old. record {
  summary = c.in_default.ensures.ok packets old.summary;
  bytes = rw (outlines-end packets _, outlined c.args.dissection.now, sym c.of-packet.ensures)
      (c.add-2.ensures (λ (p : Outline). p.wire_len) (outlines packets) (sym c.into.ensures) old.bytes);
  refused = rw (outlines-end packets _, outlined c.args.dissection.now, sym c.of-packet.ensures)
      (c.add-3.ensures refused_count (outlines packets) (sym c.refused_count.ensures) old.refused);
}
