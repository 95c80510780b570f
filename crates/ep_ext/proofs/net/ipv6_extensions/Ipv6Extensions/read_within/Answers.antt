use Rattle.ep_ext.proofs.ReadWithin.{auth_refused, bytes_refused, raw_bytes_refused}
use Rattle.ep_ext.proofs.net.ipv6_extensions.Ipv6Extensions.read_within.Goals as goal

pub returns-in-Err-read_limited-clause-err : goal.returns-in-Err-read_limited-clause-err
returns-in-Err-read_limited-clause-err g c = λ number.
    rw c.in-Authentication.is
    (auth_refused g.R.Read.remaining c.args.reader.now
    c.read_limited-in-Authentication.new.reader number c.in-Err-read_limited.error
    c.of_auth.result c.of_auth.ensures c.in-Err-read_limited.ensures.err)

pub returns-in-Err-read_limited-2 : goal.returns-in-Err-read_limited-2
returns-in-Err-read_limited-2 g c = record {
  found = tt;
  err = λ number.
      bytes_refused g.R.Read.remaining c.args.reader.now c.read_limited-in_default.new.reader number
      c.args.slot c.in-Err-read_limited-2.error c.of_bytes-in-Err-read_limited-2.result
      c.of_bytes-in-Err-read_limited-2.ensures
      (raw_bytes_refused g.R.Read.remaining c.args.slot c.args.reader.now
      c.read_limited-in_default.new.reader c.in-Err-read_limited-2.error
      c.in_default.not-Fragment c.in_default.not-Authentication
      c.in-Err-read_limited-2.ensures.err);
}
