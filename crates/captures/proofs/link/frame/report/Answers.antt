use Rattle.std.proofs.Common.{sym, append-nil}
use Rattle.captures.proofs.link.frame.report.Goals as goal

pub returns-in-Skip-clause-back : goal.returns-in-Skip-clause-back
returns-in-Skip-clause-back c =
    let packet = c.args.packet.now in
    rw c.of.ensures (record { prefix = packet; parts = sym (append-nil packet) })
