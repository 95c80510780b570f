use Rattle.std.proofs.Common.{rules}
use Rattle.ep_link.proofs.ArpEthIpv4Encoding.{put_together}
use Rattle.ep_link.proofs.link.arp_eth_ipv4_packet.ArpEthIpv4Packet.encoded.Goals as goal

pub returns-clause-bytes : goal.returns-clause-bytes
returns-clause-bytes c =
    let p = c.args.self.now in
    rw c.to_be_bytes.ensures
    (put_together p.sender_mac p.sender_ipv4 p.target_mac p.target_ipv4 _ _ (search rules)
    (search rules) (search rules) (search rules))
