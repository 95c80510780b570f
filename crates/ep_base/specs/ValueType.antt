-- The kinds of bounded numbers in their order.
use Rattle.std.specs.Prelude.{ℕ}
use Rattle.ep_base.specs.declared.err.value_type.ValueType.{ValueType}
use Rattle.ep_base.specs.declared.err.value_type.ValueType.TheVariants as kind

-- the index of a kind among them, as they are declared
abbrev pub kind_index : ValueType → ℕ
kind_index kind.VlanId = 0
kind_index kind.VlanPcp = 1
kind_index kind.MacsecAn = 2
kind_index kind.MacsecShortLen = 3
kind_index kind.IpFragmentOffset = 4
kind_index kind.IpDscp = 5
kind_index kind.IpEcn = 6
kind_index kind.Ipv6FlowLabel = 7
kind_index kind.Ipv4PayloadLength = 8
kind_index kind.Ipv6PayloadLength = 9
kind_index kind.UdpPayloadLengthIpv4 = 10
kind_index kind.UdpPayloadLengthIpv6 = 11
kind_index kind.TcpPayloadLengthIpv4 = 12
kind_index kind.TcpPayloadLengthIpv6 = 13
kind_index kind.Icmpv6PayloadLength = 14
