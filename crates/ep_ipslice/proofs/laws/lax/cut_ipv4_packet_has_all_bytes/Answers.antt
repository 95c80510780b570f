use Rattle.std.proofs.Common.{Ok, sym}
use Rattle.ep_ip.proofs.Ipv4Prefix.{takes_header}
use Rattle.ep_ipslice.proofs.LaxLaws.{cut_v4}
use Rattle.ep_ipslice.proofs.laws.lax.cut_ipv4_packet_has_all_bytes.Goals as goal

pub returns : goal.returns
returns c = λ bytes header at short.
    let begins = (takes_header bytes (Ok header) (sym at)).found in
    cut_v4 bytes header begins.1.0 at begins.1.1 short
