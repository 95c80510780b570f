use Rattle.std.proofs.Common.{Ok, ap, arith, length, length-append}
use Rattle.ep_ip.proofs.Ipv6Prefix.{takes_header}
use Rattle.ep_ipslice.proofs.FaultOffsets.{body_fits}
use Rattle.ep_ipslice.proofs.net.lax_ipv6_slice.LaxIpv6Slice.header_and_body.Goals as goal

pub returns-clause-within : goal.returns-clause-within
returns-clause-within c =
    let header = (takes_header c.args.slice.now (Ok c.in-Ok.header) c.in-Ok.ensures.exact).found in
    omega (
      arith,
      header.0.whole,
      ap length header.1.1,
      length-append c.in-Ok.header header.1.0,
      ap length c.body_of-len_source.ensures.bytes,
      body_fits c.args.slice.now c.in-Ok.header,
    )

pub body_of-len_source-requires : goal.body_of-len_source-requires
body_of-len_source-requires c =
    (takes_header c.args.slice.now (Ok c.in-Ok.header) c.in-Ok.ensures.exact).found.1
