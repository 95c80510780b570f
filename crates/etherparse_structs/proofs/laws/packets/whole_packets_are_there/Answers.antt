use Rattle.etherparse.specs.link.Ethernet.{ethernet_len}
use Rattle.etherparse.specs.link.Sll.{sll_len}
use Rattle.etherparse.specs.packet.LaxSliced.{lax_sliced_ethernet, lax_sliced_ip, lax_sliced_linux_sll}
use Rattle.etherparse.specs.packet.SliceFault.{of_linux_sll}
use Rattle.etherparse_structs.specs.LaxPacket.{of_ip_header, of_len}
use Rattle.etherparse_structs.proofs.WholeLemmas.{whole_reported}
use Rattle.etherparse_structs.proofs.laws.packets.whole_packets_are_there.Goals as goal

pub returns-clause-ethernet : goal.returns-clause-ethernet
returns-clause-ethernet c bytes packet is =
    whole_reported ethernet_len of_len (lax_sliced_ethernet bytes) packet
    (c.payloads_of_whole_packets.ensures packet)
    (c.whole_packets_are_lax_packets.ensures.ethernet bytes packet is)

pub returns-clause-linux_sll : goal.returns-clause-linux_sll
returns-clause-linux_sll c bytes packet is =
    whole_reported sll_len of_linux_sll (lax_sliced_linux_sll bytes) packet
    (c.payloads_of_whole_packets.ensures packet)
    (c.whole_packets_are_lax_packets.ensures.linux_sll bytes packet is)

pub returns-clause-ip : goal.returns-clause-ip
returns-clause-ip c bytes packet is =
    whole_reported 0 of_ip_header (lax_sliced_ip bytes) packet
    (c.payloads_of_whole_packets.ensures packet)
    (c.whole_packets_are_lax_packets.ensures.ip bytes packet is)
