use Rattle.ep_ip.proofs.Ipv6Prefix.{prefix_is}
use Rattle.ep_ip.proofs.net.ipv6_header_slice.Ipv6HeaderSlice.from_slice.Goals as goal

pub invariant_of-result : goal.invariant_of-result
invariant_of-result c = prefix_is c.args.slice.now c.if-slice-lt-LEN.false
    c.if-version_number-ne6.false
