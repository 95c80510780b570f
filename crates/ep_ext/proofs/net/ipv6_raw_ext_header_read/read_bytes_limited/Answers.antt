use Rattle.std.proofs.Common.{◌≡◌, ℕ, ◌-◌, length, drop, arith, rules, inr, ap, subst, ◌∙◌}
use Rattle.ep_ext.specs.Raw.{raw_len}
use Rattle.ep_ext.specs.Limited.{Refuses}
use Rattle.ep_ext.proofs.Reading.{requested, joined, raw_joined, raw_len_again, takes_both}
use Rattle.ep_ext.proofs.net.ipv6_raw_ext_header_read.read_bytes_limited.Goals as goal

pub returns-in-Ok-clause-found : goal.returns-in-Ok-clause-found
returns-in-Ok-clause-found g c =
    let prefix = c.read_exact.new.buf in
    let tail = c.read_exact-2.new.buf in
    let whole : length prefix ≡ 8 = search rules in
    let len : c.len_by-len.result ≡ raw_len prefix =
    raw_len_again prefix (drop 8 c.args.bytes.now) c.len_by-len.result whole
    c.len_by-len.ensures in
    let rest : length tail ≡ c.len_by-len.result - 8 = search rules in
    let read = joined 8 c.len_by-len.result prefix tail c.args.bytes.now whole rest (omega arith) in
    rw read (
      omega arith,
      raw_joined prefix tail whole (rest ∙ ap (λ n. n - 8) len),
      takes_both g.R.Read.remaining c.args.reader.now c.read_exact.new.self c.read_exact-2.new.self
          prefix tail c.in_ok-read_exact.ensures.read c.in-Ok.ensures.read,
    )

pub returns-in-Err-clause-err : goal.returns-in-Err-clause-err
returns-in-Err-clause-err g c =
    let prefix = c.read_exact.new.buf in
    let whole : length prefix ≡ 8 = search rules in
    let len : c.len_by-len.result ≡ raw_len prefix =
    raw_len_again prefix (drop 8 c.args.bytes.now) c.len_by-len.result whole
    c.len_by-len.ensures in
    let more = requested 8 c.len_by-len.result prefix c.args.bytes.now whole (omega arith) (omega arith)
    ∙ ap (λ n. n - 8) len in
    let P : ℕ → Type 0 = λ n. Refuses c.read_exact.new.self n c.in-Err.error
    c.read_exact-2.new.self in
    inr (
      prefix,
      c.read_exact.new.self,
      whole,
      c.in_ok-read_exact.ensures.read,
      subst P
          more c.in-Err.ensures.read,
    )
