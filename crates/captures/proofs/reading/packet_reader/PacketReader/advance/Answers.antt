use Rattle.std.proofs.Common.{◌∙◌, ap, refl, subst, ℕ, ◌+◌, ◌<◌, arith, List, ◌++◌, length, append_assoc, append-nil}
use Rattle.captures.specs.Readers.{HasRead}
use Rattle.captures.proofs.AdvanceLemmas.{comes_end, comes_failed, comes_refused, comes_too_many, same_refused}
use Rattle.captures.proofs.AdvanceLemmas.{same_stopped}
use Rattle.captures.proofs.ReadLemmas.{consumes_end, consumes_kept, consumes_more, no_chunk, reads_more}
use Rattle.captures.proofs.reading.packet_reader.PacketReader.advance.Goals as goal

pub returns-in-Ok-true-clause-comes : goal.returns-in-Ok-true-clause-comes
returns-in-Ok-true-clause-comes g c unfit read given h =
    let r = c.reads.invariant.goes unfit read given h in
    let finds = rw c.in-Ok-true.field-0-test at
    (c.in-Ok-true.ensures.finds unfit (read ++ r.0) given r.2) in
    (r.0, rw c.take_next.ensures.same.source r.1, finds)

pub returns-in-Err-take_next-clause-comes : goal.returns-in-Err-take_next-clause-comes
returns-in-Err-take_next-clause-comes g c unfit read given h =
    let r = c.reads.invariant.goes unfit read given h in
    let prefix = c.take_next.new.self in
    let finds = c.in-Err-take_next.ensures.finds unfit (read ++ r.0) given r.2 in
    let same = same_refused prefix c.refuse.new.self _ _ c.refuse.ensures in (
      r.0,
      rw (same.1, c.take_next.ensures.same.source) r.1,
      comes_refused unfit prefix c.refuse.new.self (read ++ r.0) given _ c.refuse.result
          c.in-Err-take_next.error finds c.refuse.ensures,
    )

pub returns-then-self-ge-READ_COUNT_LIMIT-clause-comes :
    goal.returns-then-self-ge-READ_COUNT_LIMIT-clause-comes
returns-then-self-ge-READ_COUNT_LIMIT-clause-comes g c unfit read given h =
    let r = c.reads.invariant.goes unfit read given h in
    let prefix = c.take_next.new.self in
    let finds = rw c.in-Ok-false.field-0-test at
    (c.in-Ok-false.ensures.finds unfit (read ++ r.0) given r.2) in
    let same = same_stopped prefix c.stop.new.self _ c.stop.ensures.stopped in (
      r.0,
      rw (same.0, c.take_next.ensures.same.source) r.1,
      comes_too_many unfit prefix c.stop.new.self (read ++ r.0) given _ c.stop.result finds
          c.if-self-ge-READ_COUNT_LIMIT.true c.stop.ensures.result same.1 same.2,
    )

pub returns-in-Ok-eq0-clause-comes : goal.returns-in-Ok-eq0-clause-comes
returns-in-Ok-eq0-clause-comes g c unfit read given h =
    let r = c.reads.invariant.goes unfit read given h in
    let prefix = c.take_next.new.self in
    let finds = rw c.in-Ok-false.field-0-test at
    (c.in-Ok-false.ensures.finds unfit (read ++ r.0) given r.2) in
    let came = c.in-Ok-eq0.ensures.given in
    let none = no_chunk came.0 (came.2 ∙ c.in-Ok-eq0.field-0-test) in
    let held = came.1 ∙ ap (λ (l : List ℕ). prefix.window.held ++ l) none
    ∙ append-nil prefix.window.held in (
      r.0,
      rw c.end.ensures.same.1 (consumes_end (g.R.Read.remaining c.args.self.now.reader)
          (g.R.Read.remaining prefix.reader) (g.R.Read.remaining c.fill.new.reader) r.0 came.0
          (rw c.take_next.ensures.same.source r.1) came.3 none),
      comes_end unfit prefix c.end.new.self (read ++ r.0) given _ c.end.result finds
          (rw c.end.ensures.same.1 (came.4 c.in-Ok-eq0.field-0-test))
          (record prefix { window = c.fill.new.self; reader = c.fill.new.reader })
          refl refl refl held c.end.ensures.ends,
    )

pub returns-in-Ok-eq0-clause-none : goal.returns-in-Ok-eq0-clause-none
returns-in-Ok-eq0-clause-none g c began other =
    let same = c.end.ensures.same.0 ∙ c.take_next.ensures.none (λ e. cc)
    ∙ c.reads.invariant.found in
    rw same refl

pub reads-preserved : goal.reads-preserved
reads-preserved g c =
    let before = c.reads.invariant in
    let prefix = c.take_next.new.self in
    let came = c.in-Ok-fill.ensures.given in
    let not_zero = c.in-Ok-fill.field-0-test in
    let size = came.2 in
    let some : 0 < length came.0 = omega arith in
    let new = record prefix {
      reader = c.fill.new.reader;
      reads = prefix.reads + 1;
      window = c.fill.new.self;
    } in
    record {
      goes = λ unfit read given h.
          let r = before.goes unfit read given h in
          let finds = rw c.in-Ok-false.field-0-test at
          (c.in-Ok-false.ensures.finds unfit (read ++ r.0) given r.2) in (
            r.0 ++ came.0,
            consumes_more _ (g.R.Read.remaining prefix.reader) _ r.0 came.0
                (rw c.take_next.ensures.same.source r.1) came.3,
            subst (λ (l : List ℕ). HasRead unfit new l given) (append_assoc read r.0 came.0)
                (reads_more unfit prefix new (read ++ r.0) given finds.0 refl refl refl came.0
                came.1 refl refl some),
          );
      began = before.began;
      going = c.take_next.ensures.same.ended ∙ before.going;
      found = c.take_next.ensures.none (λ e. cc) ∙ before.found;
    }

pub returns-in-Err-fill-clause-comes : goal.returns-in-Err-fill-clause-comes
returns-in-Err-fill-clause-comes g c unfit read given h =
    let r = c.reads.invariant.goes unfit read given h in
    let prefix = c.take_next.new.self in
    let finds = rw c.in-Ok-false.field-0-test at
    (c.in-Ok-false.ensures.finds unfit (read ++ r.0) given r.2) in
    let failed = c.in-Err-fill.ensures.failed in
    let mid = record prefix { window = c.fill.new.self; reader = c.fill.new.reader } in
    let same = same_stopped mid c.stop-in-Err-fill.new.self _ c.stop-in-Err-fill.ensures.stopped in (
      r.0,
      rw same.0 (consumes_kept (g.R.Read.remaining c.args.self.now.reader)
          (g.R.Read.remaining prefix.reader) (g.R.Read.remaining c.fill.new.reader) r.0
          (rw c.take_next.ensures.same.source r.1) failed.1),
      comes_failed unfit prefix c.stop-in-Err-fill.new.self (read ++ r.0) given _
          c.stop-in-Err-fill.result finds c.stop-in-Err-fill.ensures.result same.1 same.2,
    )
