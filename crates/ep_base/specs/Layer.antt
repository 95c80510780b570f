-- The layers of a packet in their order.
use Rattle.std.specs.Prelude.{ℕ}
use Rattle.ep_base.specs.declared.err.layer.Layer.{Layer}
use Rattle.ep_base.specs.declared.err.layer.Layer.TheVariants as layer

-- the index of a layer among them, as they are declared
abbrev pub layer_index : Layer → ℕ
layer_index layer.LinuxSllHeader = 0
layer_index layer.Ethernet2Header = 1
layer_index layer.EtherPayload = 2
layer_index layer.VlanHeader = 3
layer_index layer.MacsecHeader = 4
layer_index layer.MacsecPacket = 5
layer_index layer.IpHeader = 6
layer_index layer.Ipv4Header = 7
layer_index layer.Ipv4Packet = 8
layer_index layer.IpAuthHeader = 9
layer_index layer.Ipv6Header = 10
layer_index layer.Ipv6Packet = 11
layer_index layer.Ipv6ExtHeader = 12
layer_index layer.Ipv6HopByHopHeader = 13
layer_index layer.Ipv6DestOptionsHeader = 14
layer_index layer.Ipv6RouteHeader = 15
layer_index layer.Ipv6FragHeader = 16
layer_index layer.UdpHeader = 17
layer_index layer.UdpPayload = 18
layer_index layer.TcpHeader = 19
layer_index layer.Icmpv4 = 20
layer_index layer.Icmpv4Timestamp = 21
layer_index layer.Icmpv4TimestampReply = 22
layer_index layer.Icmpv6 = 23
layer_index layer.Arp = 24
