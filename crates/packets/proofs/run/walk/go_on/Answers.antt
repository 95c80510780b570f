use Rattle.std.proofs.Common.{sym, subst, ◌++◌, append-nil, List, [], ℕ, Ok, Err, true, inl}
use Rattle.std.proofs.KnownBytes.{Consumes-nil}
use Rattle.std.specs.Io.KnownBytes.{Consumes}
use Rattle.captures.specs.Readers.{ComesTo, skipped_by, source_of}
use Rattle.packets.specs.PacketRuns.{AreTaken}
use Rattle.packets.proofs.EndLemmas.{break_ends, broken}
use Rattle.packets.proofs.WalkLemmas.{given_but_none, reader_ends, unbroken_by_read}
use Rattle.packets.proofs.run.walk.go_on.Goals as goal

pub returns-in-Err : goal.returns-in-Err
returns-in-Err g c unfit read given start seen h goes =
    let left = g.R.Read.remaining (source_of c.args.packets.now) in
    let by = c.in-Err.ensures start seen goes in (
      [],
      Consumes-nil left,
      (
        break_ends g.V.Visitor.writes unfit _ left (read ++ []) given c.in-Err.error _ by
            (subst (λ (l : List ℕ). AreTaken unfit (skipped_by c.args.packets.now) l given)
            (sym (append-nil read))
            (inl (given_but_none unfit c.args.packets.now read given h))),
        (broken g.V.Visitor.writes c.in-Err.error _ by).1 _ _ (broken g.V.Visitor.writes c.in-Err.error _ by).0,
      ),
    )

pub returns-in-Ok-true : goal.returns-in-Ok-true
returns-in-Ok-true g c unfit read given start seen h goes =
    let left = g.R.Read.remaining (source_of c.advance_held.new.self) in
    let comes = rw c.in-Ok-true.field-0-test at (c.in-Ok-true.ensures.comes unfit read given h) in (
      [],
      subst (λ r. Consumes (g.R.Read.remaining r) left []) c.advance_held.ensures.source
          (Consumes-nil left),
      (
        subst (λ (l : List ℕ). ComesTo unfit c.advance_held.new.self left l given (Ok true))
            (sym (append-nil read)) comes,
        c.in_default.ensures start seen goes,
      ),
    )

pub returns-in-Err-advance_held : goal.returns-in-Err-advance_held
returns-in-Err-advance_held g c unfit read given start seen h goes =
    let new = c.advance_held.new.self in
    let left = g.R.Read.remaining (source_of new) in
    let comes = c.in-Err-advance_held.ensures.comes unfit read given h in (
      [],
      subst (λ r. Consumes (g.R.Read.remaining r) left []) c.advance_held.ensures.source
          (Consumes-nil left),
      (
        reader_ends g.V.Visitor.writes unfit new left (read ++ []) given
            c.in-Err-advance_held.error c.from.result c.from.ensures
            (subst (λ (l : List ℕ). ComesTo unfit new left l given
            (Err c.in-Err-advance_held.error)) (sym (append-nil read)) comes),
        unbroken_by_read c.in-Err-advance_held.error c.from.result _ _ c.from.ensures
            (c.in_default.ensures start seen goes),
      ),
    )

pub returns-in-Err-before_read : goal.returns-in-Err-before_read
returns-in-Err-before_read g c unfit read given start seen h goes =
    let new = c.advance_held.new.self in
    let left = g.R.Read.remaining (source_of new) in
    let prefix = rw c.in-Ok-false.field-0-test at
    (c.in-Ok-false.ensures.comes unfit read given h) in
    let by = c.in-Err-before_read.ensures start seen (c.in_default.ensures start seen goes) in (
      [],
      subst (λ r. Consumes (g.R.Read.remaining r) left []) c.advance_held.ensures.source
          (Consumes-nil left),
      (
        break_ends g.V.Visitor.writes unfit _ left (read ++ []) given c.in-Err-before_read.error _ by
            (subst (λ (l : List ℕ). AreTaken unfit (skipped_by new) l given)
            (sym (append-nil read)) (inl (given_but_none unfit new read given prefix.0))),
        (broken g.V.Visitor.writes c.in-Err-before_read.error _ by).1 _ _ (broken g.V.Visitor.writes c.in-Err-before_read.error _ by).0,
      ),
    )

pub returns-in-Ok : goal.returns-in-Ok
returns-in-Ok g c unfit read given start seen h goes =
    let left = g.R.Read.remaining (source_of c.advance.new.self) in
    let prefix = rw c.in-Ok-false.field-0-test at
    (c.in-Ok-false.ensures.comes unfit read given h) in
    let goes_on = c.in_default-before_read.ensures start seen
    (c.in_default.ensures start seen goes) in
    let came = c.in-Ok.ensures.comes unfit read given prefix.0 in (
      came.0,
      subst (λ r. Consumes (g.R.Read.remaining r) left came.0) c.advance_held.ensures.source came.1,
      (came.2, goes_on),
    )

pub returns-in-Err-advance : goal.returns-in-Err-advance
returns-in-Err-advance g c unfit read given start seen h goes =
    let new = c.advance.new.self in
    let left = g.R.Read.remaining (source_of new) in
    let prefix = rw c.in-Ok-false.field-0-test at
    (c.in-Ok-false.ensures.comes unfit read given h) in
    let goes_on = c.in_default-before_read.ensures start seen
    (c.in_default.ensures start seen goes) in
    let came = c.in-Err-advance.ensures.comes unfit read given prefix.0 in (
      came.0,
      subst (λ r. Consumes (g.R.Read.remaining r) left came.0) c.advance_held.ensures.source came.1,
      (
        reader_ends g.V.Visitor.writes unfit new left (read ++ came.0) given
            c.in-Err-advance.error c.from-in-Err-advance.result c.from-in-Err-advance.ensures came.2,
        unbroken_by_read c.in-Err-advance.error c.from-in-Err-advance.result _ _
            c.from-in-Err-advance.ensures goes_on,
      ),
    )
