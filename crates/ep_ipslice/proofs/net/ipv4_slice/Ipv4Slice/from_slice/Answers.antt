use Rattle.std.proofs.Common.{Ok}
use Rattle.ep_ip.proofs.Ipv4Prefix.{takes_header}
use Rattle.ep_ipslice.proofs.net.ipv4_slice.Ipv4Slice.from_slice.Goals as goal

pub after_header-requires : goal.after_header-requires
after_header-requires c =
    (takes_header c.args.slice.now (Ok c.in-Ok.header) c.in-Ok.ensures.exact).found.1
