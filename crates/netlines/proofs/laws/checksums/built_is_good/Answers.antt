use Rattle.netlines.proofs.SealedLemmas.{built_good}
use Rattle.netlines.proofs.laws.checksums.built_is_good.Goals as goal

pub returns : goal.returns
returns c =
    built_good (record {
      udp = c.sealed_sums_to_all_ones-2.ensures;
      tcp = c.sealed_sums_to_all_ones.ensures.header;
      icmpv4 = c.checksums_sum_to_all_ones.ensures;
      icmpv6 = c.checksums_sum_to_all_ones-2.ensures;
    })
