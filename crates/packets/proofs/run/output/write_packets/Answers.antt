use Rattle.std.proofs.Common.{◌≡◌, ◌∙◌, sym, refl, subst, [], Err, true, inl}
use Rattle.std.proofs.KnownBytes.{Appends-nil, Consumes-nil}
use Rattle.std.specs.Io.KnownBytes.{Consumes}
use Rattle.captures.specs.Readers.{source_of}
use Rattle.packets.specs.Courses.{shown}
use Rattle.packets.specs.PacketRuns.{EndsWithin}
use Rattle.packets.specs.Written.{AreTexts, Writes}
use Rattle.packets.specs.declared.run.omitted.Omitted.{Omitted}
use Rattle.packets.proofs.EndLemmas.{always_unbroken, either_way, nothing_first, weaker_unbroken}
use Rattle.packets.proofs.LimitLemmas.{breaks_within, none_fewer}
use Rattle.packets.proofs.TextLemmas.{Break, Wait, ended_broken, ended_whole}
use Rattle.packets.proofs.run.output.write_packets.Goals as goal

pub returns-in_default : goal.returns-in_default
returns-in_default g c = (
  [],
  g.R.Read.remaining c.args.reader,
  [],
  [],
  Consumes-nil (g.R.Read.remaining c.args.reader),
  (tt, inl (none_fewer c.args.rules.now.count, nothing_first c.args.rules.now.unfit)),
  refl,
  refl,
  [],
  refl,
  [],
  Appends-nil (g.W.Write.contents c.args.writer.now),
  refl,
)

pub returns-in-Ok-written : goal.returns-in-Ok-written
returns-in-Ok-written g c =
    let rules = c.args.rules.now in
    let IsTextOf = g.P.PacketWriter.writes c.args.packet_writer.now in
    let result = c.walk-result.result in
    let walked = c.walk-result.ensures in
    let source = g.R.Read.remaining c.args.reader in
    let left = g.R.Read.remaining (source_of c.walk-result.new.packets) in
    let output = c.walk-result.new.visitor in
    let first = g.W.Write.contents c.args.writer.now in
    let mid = g.W.Write.contents output.writer.now in
    let seen = shown rules.filter walked.2 in
    let whole = always_unbroken result _ _ walked.6 in
    let omitted : Omitted = record { skipped = c.skipped.result; dropped = c.dropped.result } in
    let writer = c.write_out-written.ensures.name ∙ either_way result _ _
    (output.writer.ghost_name ≡ _) whole (λ held here. held.0)
    (λ held here. held.0) in
    let reported = ended_whole IsTextOf result first mid
    (g.W.Write.contents c.write_out-written.new.self.writer.now) seen output.texts.waiting.items
    (weaker_unbroken result _ _ (Wait IsTextOf first mid seen output.texts.waiting.items)
    ((output.texts.waiting.items ≡ []) × Break IsTextOf first mid seen)
    (λ held. (held.2, held.3, held.4)) (λ held. (held.1, (held.2, held.3, held.4, held.5))) whole)
    c.in-Ok-written.ensures.written in
    subst (λ writer. Writes (AreTexts IsTextOf) rules omitted
    source first (g.W.Write.contents writer) result) (sym (c.writer-1.given.1 (sym writer))) (
      walked.0,
      left,
      walked.1,
      walked.2,
      subst (λ reader. Consumes (g.R.Read.remaining reader) left walked.0) c.in-Ok.ensures.source
          walked.3,
      subst (λ skipped. EndsWithin true rules skipped left walked.0 walked.1 result)
          (sym c.skipped.ensures) walked.4,
      c.dropped.ensures ∙ walked.8,
      walked.5,
      reported.0,
      reported.1,
      reported.2,
      reported.3,
      reported.4,
    )

pub returns : goal.returns
returns g c =
    let rules = c.args.rules.now in
    let IsTextOf = g.P.PacketWriter.writes c.args.packet_writer.now in
    let result = c.walk-result.result in
    let walked = c.walk-result.ensures in
    let source = g.R.Read.remaining c.args.reader in
    let left = g.R.Read.remaining (source_of c.walk-result.new.packets) in
    let output = c.walk-result.new.visitor in
    let first = g.W.Write.contents c.args.writer.now in
    let mid = g.W.Write.contents output.writer.now in
    let seen = shown rules.filter walked.2 in
    let whole = always_unbroken result _ _ walked.6 in
    let by = c.in-Err.ensures.written in
    let omitted : Omitted = record { skipped = c.skipped.result; dropped = c.dropped.result } in
    let writer = c.write_out-written.ensures.name ∙ either_way result _ _
    (output.writer.ghost_name ≡ _) whole (λ held here. held.0) (λ held here. held.0) in
    let reported = ended_broken IsTextOf result c.in-Err.error first mid
    (g.W.Write.contents c.write_out-written.new.self.writer.now) seen output.texts.waiting.items
    (weaker_unbroken result _ _ (Wait IsTextOf first mid seen output.texts.waiting.items)
    ((output.texts.waiting.items ≡ []) × Break IsTextOf first mid seen)
    (λ held. (held.2, held.3, held.4)) (λ held. (held.1, (held.2, held.3, held.4, held.5))) whole)
    by in
    subst (λ writer. Writes (AreTexts IsTextOf) rules omitted
    source first (g.W.Write.contents writer) (Err c.in-Err.error))
    (sym (c.writer-1.given.1 (sym writer))) (
      walked.0,
      left,
      walked.1,
      walked.2,
      subst (λ reader. Consumes (g.R.Read.remaining reader) left walked.0) c.in-Ok.ensures.source
          walked.3,
      breaks_within rules c.skipped.result left walked.0 walked.1 result c.in-Err.error _ by
          (subst (λ skipped. EndsWithin true rules skipped left walked.0 walked.1 result)
          (sym c.skipped.ensures) walked.4),
      c.dropped.ensures ∙ walked.8,
      walked.5,
      reported.0,
      reported.1,
      reported.2,
      reported.3,
      reported.4,
    )
