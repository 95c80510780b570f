-- The sources of lengths in their order.
use Rattle.std.specs.Prelude.{ℕ}
use Rattle.ep_base.specs.declared.len_source.LenSource.{LenSource}
use Rattle.ep_base.specs.declared.len_source.LenSource.TheVariants.{Slice, MacsecShortLength, Ipv4HeaderTotalLen}
use Rattle.ep_base.specs.declared.len_source.LenSource.TheVariants.{Ipv6HeaderPayloadLen, UdpHeaderLen, TcpHeaderLen}
use Rattle.ep_base.specs.declared.len_source.LenSource.TheVariants.{ArpAddrLengths}

-- the index of a source among them: the slice, then the fields by layer, as they are declared
abbrev pub source_index : LenSource → ℕ
source_index Slice = 0
source_index MacsecShortLength = 1
source_index Ipv4HeaderTotalLen = 2
source_index Ipv6HeaderPayloadLen = 3
source_index UdpHeaderLen = 4
source_index TcpHeaderLen = 5
source_index ArpAddrLengths = 6
