use Rattle.std.proofs.Common.{subst, length, List, ℕ}
use Rattle.std.proofs.lemmas.Result.{err_from_is_err_and}
use Rattle.device_runs.specs.Writes.{Written, Stops}
use Rattle.device_runs.proofs.WriteLemmas.{Stops-more, Stops-after, Written-append}
use Rattle.captures.specs.Encoding.{record_head}
use Rattle.captures.proofs.pcap.writer.Writer.write_packet.Goals as goal

pub returns-in_err-write_whole : goal.returns-in_err-write_whole
returns-in_err-write_whole g c =
    let transition = g.D.Device.transition in
    let exit = err_from_is_err_and c.from_residual.result c.from_residual.ensures.1 in
    let stops = subst
    (λ (l : List ℕ). Stops transition c.in_err-write_whole.field-0.0 c.args.self.now.device l
    c.write_whole.new.device) c.record_head-head.ensures c.in_err-write_whole.ensures in
    rw (exit.1, exit.2) (Stops-more transition _ _ _
    (record_head c.args.seconds c.args.microseconds (length c.args.frame.now) (length c.args.frame.now))
    c.args.frame.now stops)

pub returns-in_err-write_whole-2 : goal.returns-in_err-write_whole-2
returns-in_err-write_whole-2 g c =
    let transition = g.D.Device.transition in
    let head = subst
    (λ (l : List ℕ). Written transition c.args.self.now.device l c.write_whole.new.device)
    c.record_head-head.ensures c.in_ok-write_whole.ensures in
    let exit = err_from_is_err_and c.from_residual-in_err-write_whole-2.result
    c.from_residual-in_err-write_whole-2.ensures.1 in
    rw (exit.1, exit.2) (Stops-after transition _ _ c.write_whole.new.device _
    (record_head c.args.seconds c.args.microseconds (length c.args.frame.now) (length c.args.frame.now))
    c.args.frame.now head c.in_err-write_whole-2.ensures)

pub returns : goal.returns
returns g c =
    let transition = g.D.Device.transition in
    let head = subst
    (λ (l : List ℕ). Written transition c.args.self.now.device l c.write_whole.new.device)
    c.record_head-head.ensures c.in_ok-write_whole.ensures in
    Written-append transition _ c.write_whole.new.device _
    (record_head c.args.seconds c.args.microseconds (length c.args.frame.now) (length c.args.frame.now)) c.args.frame.now
    head c.in_ok-write_whole-2.ensures
