use Rattle.std.proofs.Common.{refl}
use Rattle.checksum_verdicts.proofs.laws.pseudo_headers_at_literal_values.Goals as goal

pub returns-clause-udp : goal.returns-clause-udp
returns-clause-udp c bytes long = rw long refl

pub returns-clause-tcp : goal.returns-clause-tcp
returns-clause-tcp c bytes long = rw long refl

pub returns-clause-icmpv6 : goal.returns-clause-icmpv6
returns-clause-icmpv6 c bytes long = rw long refl

pub returns-clause-udp_over_ipv4 : goal.returns-clause-udp_over_ipv4
returns-clause-udp_over_ipv4 c bytes long = rw long refl
