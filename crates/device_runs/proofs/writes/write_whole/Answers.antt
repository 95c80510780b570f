use Rattle.std.proofs.Common.{rules, arith, ◌<◌, subst, refl, length, Some, None}
use Rattle.device_runs.specs.Calls.{Writes}
use Rattle.device_runs.specs.declared.fault.Fault.TheVariants.{WriteFailed, NothingTaken}
use Rattle.device_runs.proofs.WriteLemmas.{Stops-now, Written-more, split_more}
use Rattle.device_runs.proofs.writes.write_whole.Goals as goal

pub returns-in-Ok-eq0 : goal.returns-in-Ok-eq0
returns-in-Ok-eq0 g c =
    let some : 0 < length c.writes.rest.now = search rules in
    let left = c.writes.invariant in
    Stops-now g.D.Device.transition NothingTaken _ c.writes.device _ _ left.0 c.writes.rest.now
    (Some 0) left.1 some left.2
    (subst (λ n. g.D.Device.transition c.writes.device
    (Writes c.writes.rest.now (Some n)) c.write_some.new.self) c.in-Ok-eq0.field-0-test
    c.in-Ok-eq0.ensures.call) refl

pub writes-preserved : goal.writes-preserved
writes-preserved g c =
    let left = c.writes.invariant in (
      _,
      split_more _ left.0 c.writes.rest.now c.in-Ok.n left.1,
      Written-more g.D.Device.transition _ c.writes.device _ left.0 c.writes.rest.now c.in-Ok.n
          left.2 c.in-Ok.ensures.call (omega (arith, c.in-Ok.n-test.1)) c.in-Ok.ensures.bound,
    )

pub returns-in-Err : goal.returns-in-Err
returns-in-Err g c =
    let some : 0 < length c.writes.rest.now = search rules in
    let left = c.writes.invariant in
    Stops-now g.D.Device.transition WriteFailed _ c.writes.device _ _ left.0 c.writes.rest.now None
    left.1 some left.2 c.in-Err.ensures.call refl
