use Rattle.std.proofs.Common.{◌≡◌, ℕ, ◌-◌, ◌≤◌, length, drop, arith, rules, inr, ap, subst, sym, ◌∙◌}
use Rattle.ep_ext.specs.Auth.{auth_len}
use Rattle.ep_ext.specs.Limited.{Refuses}
use Rattle.ep_ext.specs.Reads.{RefusesAuthWithin}
use Rattle.ep_ext.specs.declared.err.ip_auth.header_limited_read_error.HeaderLimitedReadError.{HeaderLimitedReadError}
use Rattle.ep_ext.proofs.Reading.{requested, auth_written, auth_len_again, takes_both, auth_within}
use Rattle.ep_ext.proofs.net.ip_auth_header_read.read_bytes_limited.Goals as goal

pub returns-in-Ok-read_exact-clause-found : goal.returns-in-Ok-read_exact-clause-found
returns-in-Ok-read_exact-clause-found g c =
    let prefix = c.read_exact.new.buf in
    let tail = c.read_exact-2.new.buf in
    let written = auth_written prefix tail c.args.bytes.now c.len_by-len.result
    (search rules) c.len_by-len.ensures (omega arith) (search rules) in
    rw written.0 (
      omega arith,
      written.1,
      takes_both g.R.Read.remaining c.args.reader.now c.read_exact.new.self c.read_exact-2.new.self
          prefix tail c.in-Ok.ensures.read c.in-Ok-read_exact.ensures.read,
    )

pub returns-in-Err-read_exact-clause-err : goal.returns-in-Err-read_exact-clause-err
returns-in-Err-read_exact-clause-err g c =
    let prefix = c.read_exact.new.buf in
    let whole : length prefix ≡ 12 = search rules in
    let len : c.len_by-len.result ≡ auth_len prefix =
    auth_len_again prefix (drop 12 c.args.bytes.now) c.len_by-len.result whole
    c.len_by-len.ensures in
    let enough : 12 ≤ c.len_by-len.result = omega arith in
    let more = requested 12 c.len_by-len.result prefix c.args.bytes.now whole (omega arith) enough
    ∙ ap (λ n. n - 12) len in
    let P : ℕ → Type 0 = λ n. Refuses c.read_exact.new.self n c.in-Err-read_exact.error
    c.read_exact-2.new.self in
    let Q : HeaderLimitedReadError → Type 0 =
    λ e. RefusesAuthWithin g.R.Read.remaining c.args.reader.now e c.read_exact-2.new.self in
    subst Q (sym c.into-in-Err-read_exact.ensures)
    (auth_within g.R.Read.remaining c.args.reader.now c.read_exact-2.new.self
    c.in-Err-read_exact.error
    (inr (
      prefix,
      c.read_exact.new.self,
      whole,
      c.in-Ok.ensures.read,
      subst P more
          c.in-Err-read_exact.ensures.read,
    )))
