use Rattle.std.proofs.Common.{◌≡◌, ◌-◌, length, drop, arith, rules, ap, ◌∙◌}
use Rattle.std.proofs.KnownBytes.{Consumes-trans}
use Rattle.ep_ext.specs.Raw.{raw_len}
use Rattle.ep_ext.proofs.Reading.{joined, raw_joined, raw_len_again}
use Rattle.ep_ext.proofs.net.ipv6_raw_ext_header_read.read_bytes.Goals as goal

pub returns : goal.returns
returns g c =
    let prefix = c.read_exact.new.buf in
    let tail = c.read_exact-2.new.buf in
    let whole : length prefix ≡ 8 = search rules in
    let len : c.len_by-len.result ≡ raw_len prefix =
    raw_len_again prefix (drop 8 c.args.bytes.now) c.len_by-len.result whole
    c.len_by-len.ensures in
    let rest : length tail ≡ c.len_by-len.result - 8 = search rules in
    let read = joined 8 c.len_by-len.result prefix tail c.args.bytes.now whole rest (omega arith) in
    rw read (
      omega arith,
      raw_joined prefix tail whole (rest ∙ ap (λ n. n - 8) len),
      Consumes-trans (g.R.Read.remaining c.args.reader.now)
          (g.R.Read.remaining c.read_exact.new.self)
          (g.R.Read.remaining c.read_exact-2.new.self) prefix tail c.in_ok-read_exact.ensures.bytes
          c.in_ok-read_exact-2.ensures.bytes,
    )
