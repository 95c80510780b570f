use Rattle.etherparse.specs.packet.Transport.{transport_len}
use Rattle.netlines.specs.Sealed.{is_icmp_of_other_version}
use Rattle.std.proofs.Common.{◌+◌, length}
use Rattle.std.specs.Prelude.{nat_lt}
use Rattle.netlines.proofs.SealedLemmas.{long_where, other_where, sealed_good, sealed_where, unrefused}
use Rattle.netlines.proofs.laws.checksums.sealed_is_good.Goals as goal

pub returns-clause-good : goal.returns-clause-good
returns-clause-good c =
    sealed_good (record {
      udp = c.sealed_sums_to_all_ones-2.ensures;
      tcp = c.sealed_sums_to_all_ones.ensures.header;
      icmpv4 = c.checksums_sum_to_all_ones.ensures;
      icmpv6 = c.checksums_sum_to_all_ones-2.ensures;
    })

pub returns-clause-unrefused : goal.returns-clause-unrefused
returns-clause-unrefused c = unrefused

pub returns-clause-sealed : goal.returns-clause-sealed
returns-clause-sealed c =
    λ version_id header payload.
    sealed_where (is_icmp_of_other_version version_id header) (transport_len header + length payload)

pub returns-clause-other_version : goal.returns-clause-other_version
returns-clause-other_version c =
    λ version_id header payload.
    other_where (is_icmp_of_other_version version_id header)
    (nat_lt 65535 (transport_len header + length payload))

pub returns-clause-too_long : goal.returns-clause-too_long
returns-clause-too_long c =
    λ version_id header payload.
    long_where (is_icmp_of_other_version version_id header) (transport_len header + length payload)
