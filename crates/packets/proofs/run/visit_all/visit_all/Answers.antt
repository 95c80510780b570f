use Rattle.std.proofs.Common.{◌∙◌, refl, sym, subst, [], inl}
use Rattle.std.proofs.KnownBytes.{Consumes-nil}
use Rattle.std.specs.Io.KnownBytes.{Consumes}
use Rattle.captures.specs.Readers.{source_of}
use Rattle.packets.specs.PacketRuns.{EndsWithin}
use Rattle.packets.proofs.EndLemmas.{nothing_first, weaker_out_of_memory}
use Rattle.packets.proofs.LimitLemmas.{none_fewer}
use Rattle.packets.proofs.run.visit_all.visit_all.Goals as goal

pub returns-in_default : goal.returns-in_default
returns-in_default g c = (
  [],
  (
    [],
    g.R.Read.remaining c.args.reader,
    [],
    Consumes-nil (g.R.Read.remaining c.args.reader),
    (tt, inl (none_fewer c.args.rules.now.count, nothing_first c.args.rules.now.unfit)),
    refl,
    (tt, refl),
  ),
  inl c.requires.begins,
)

pub returns : goal.returns
returns g c =
    let rules = c.args.rules.now in
    let result = c.walk-result.result in
    let walked = c.walk-result.ensures in
    let left = g.R.Read.remaining (source_of c.walk-result.new.packets) in (
      walked.2,
      (
        walked.0,
        left,
        walked.1,
        subst (λ reader. Consumes (g.R.Read.remaining reader) left walked.0) c.in-Ok.ensures.source
            walked.3,
        subst (λ skipped. EndsWithin g.V.Visitor.writes rules skipped left walked.0 walked.1 result)
            (sym c.skipped.ensures) walked.4,
        walked.5,
        (
          weaker_out_of_memory result _ _ (λ shows. c.open.ensures _ shows) walked.7,
          c.dropped.ensures ∙ walked.8,
        ),
      ),
      walked.6,
    )
