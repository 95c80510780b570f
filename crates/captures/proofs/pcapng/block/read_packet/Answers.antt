use Rattle.std.proofs.Common.{◌∙◌, sym, arith, refl, ap, ◌+◌, ◌-◌, length, List, ℕ}
use Rattle.captures.specs.Pcapng.Content.{Holds}
use Rattle.captures.specs.declared.skipped.Passing.{Passing}
use Rattle.captures.proofs.OffsetLemmas.{stands_back}
use Rattle.captures.proofs.pcapng.block.read_packet.Goals as goal

pub returns-in-Some-refused_type-clause-refused : goal.returns-in-Some-refused_type-clause-refused
returns-in-Some-refused_type-clause-refused c =
    let held = c.in-Some.held in (
      (
        held.origin,
        held.link,
        held.packet.now,
        c.in-Some.ensures.found,
        sym c.refused_type.ensures ∙ c.in-Some-refused_type.is,
      ),
      refl,
    )

pub returns-then-held-taken_limit-clause-refused : goal.returns-then-held-taken_limit-clause-refused
returns-then-held-taken_limit-clause-refused c =
    let held = c.in-Some.held in (
      (
        held.origin,
        held.link,
        held.packet.now,
        c.in-Some.ensures.found,
        c.in-Some.ensures.captured,
        omega arith,
        sym c.refused_type.ensures ∙ c.in_default-refused_type.is,
      ),
      refl,
    )

pub returns-clause-reads : goal.returns-clause-reads
returns-clause-reads c =
    let held = c.in-Some.held in
    let captured = c.in-Some.ensures.captured in
    record {
      content = Holds held.origin held.link held.packet.now;
      says = c.in-Some.ensures.found;
      becomes = (
        ap (λ (p : Passing). record c.args.section.now { passing = p })
            c.in-Some-report.ensures.reported.1,
        refl,
        c.in-Some-report.ensures.reported.0,
        omega arith,
        sym c.refused_type.ensures ∙ c.in_default-refused_type.is,
      );
    }

pub returns-in_default-report-clause-refused : goal.returns-in_default-report-clause-refused
returns-in_default-report-clause-refused c =
    let held = c.in-Some.held in
    let captured = c.in-Some.ensures.captured in (
      (
        held.origin,
        held.link,
        held.packet.now,
        c.in-Some.ensures.found,
        omega arith,
        c.in_default-report.ensures.reported.0,
        sym c.refused_type.ensures ∙ c.in_default-refused_type.is,
      ),
      ap (λ (p : Passing). record c.args.section.now { passing = p })
          c.in_default-report.ensures.reported.1,
    )

pub returns-clause-on : goal.returns-clause-on
returns-clause-on c some =
    let held = c.in-Some.held in
    record {
      packet = held.packet.now;
      says = c.in-Some.ensures.found;
      wire = c.in-Some.ensures.wire;
      parts = c.in-Some-report.ensures.parts some;
    }

pub returns-clause-at : goal.returns-clause-at
returns-clause-at c =
    let held = c.in-Some.held in
    let packet = held.packet.now in
    stands_back c.args.block.now packet c.in-Some-report.frame.bytes held.at _ c.in-Some.ensures.at
    c.in-Some-report.ensures.back
    (ap (λ (l : List ℕ). held.at + (length packet - length l)) c.bytes.ensures)
