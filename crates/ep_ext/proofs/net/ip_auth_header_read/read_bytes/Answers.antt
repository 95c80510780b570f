use Rattle.std.proofs.Common.{◌≡◌, ◌-◌, ◌≤◌, length, drop, arith, rules, ap, ◌∙◌}
use Rattle.std.proofs.KnownBytes.{Consumes-trans}
use Rattle.ep_ext.proofs.Reading.{auth_written}
use Rattle.ep_ext.proofs.net.ip_auth_header_read.read_bytes.Goals as goal

pub returns-in-Ok-read_exact-clause-found : goal.returns-in-Ok-read_exact-clause-found
returns-in-Ok-read_exact-clause-found g c =
    let prefix = c.read_exact.new.buf in
    let tail = c.read_exact-2.new.buf in
    let written = auth_written prefix tail c.args.bytes.now c.len_by-len.result
    (search rules) c.len_by-len.ensures (omega arith) (search rules) in
    rw written.0 (
      omega arith,
      written.1,
      Consumes-trans (g.R.Read.remaining c.args.reader.now)
          (g.R.Read.remaining c.read_exact.new.self)
          (g.R.Read.remaining c.read_exact-2.new.self) prefix tail c.in-Ok.ensures.bytes
          c.in-Ok-read_exact.ensures.bytes,
    )
