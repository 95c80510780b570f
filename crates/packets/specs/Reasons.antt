-- Why a packet is refused, without the numbers that differ from packet to packet.
use Rattle.ep_ext.specs.declared.err.ip_auth.header_error.HeaderError.{HeaderError as AuthFault}
use Rattle.ep_ext.specs.declared.err.ip_auth.header_error.HeaderError.TheVariants as auth
use Rattle.ep_ext.specs.declared.err.ipv6_exts.header_error.HeaderError.{HeaderError as ExtsFault}
use Rattle.ep_ext.specs.declared.err.ipv6_exts.header_error.HeaderError.TheVariants as exts
use Rattle.etherparse.specs.declared.defrag.ip_defrag_error.IpDefragError.{IpDefragError}
use Rattle.etherparse.specs.declared.defrag.ip_defrag_error.IpDefragError.TheVariants as fragment
use Rattle.ep_ip.specs.declared.err.ipv4.header_error.HeaderError.{HeaderError as Ipv4Fault}
use Rattle.ep_ip.specs.declared.err.ipv4.header_error.HeaderError.TheVariants as v4
use Rattle.ep_ipslice.specs.declared.err.ip.header_error.HeaderError.{HeaderError as IpFault}
use Rattle.ep_ipslice.specs.declared.err.ip.header_error.HeaderError.TheVariants as ip
use Rattle.ep_link.specs.declared.err.linux_sll.header_error.HeaderError.{HeaderError as CookedFault}
use Rattle.ep_link.specs.declared.err.linux_sll.header_error.HeaderError.TheVariants as cooked
use Rattle.ep_packet.specs.declared.err.packet.slice_error.SliceError.{SliceError}
use Rattle.ep_packet.specs.declared.err.packet.slice_error.SliceError.TheVariants as fault
use Rattle.ep_tag.specs.declared.err.macsec.header_error.HeaderError.{HeaderError as MacsecFault}
use Rattle.ep_tag.specs.declared.err.macsec.header_error.HeaderError.TheVariants as macsec
use Rattle.packets.specs.declared.reason.Reason.{Reason}
use Rattle.packets.specs.declared.reason.Reason.TheVariants as reason

abbrev pub cooked_reason : CookedFault → Reason
cooked_reason (cooked.UnsupportedPacketTypeField packet_type) = reason.CookedPacketType
cooked_reason (cooked.UnsupportedArpHardwareId hardware) = reason.CookedHardwareType

abbrev pub macsec_reason : MacsecFault → Reason
macsec_reason macsec.UnexpectedVersion = reason.MacsecVersion
macsec_reason macsec.InvalidUnmodifiedShortLen = reason.MacsecShortLen

abbrev pub ip_reason : IpFault → Reason
ip_reason (ip.UnsupportedIpVersion version) = reason.IpVersion
ip_reason (ip.Ipv4HeaderLengthSmallerThanHeader ihl) = reason.Ipv4HeaderLen

abbrev pub ipv4_reason : Ipv4Fault → Reason
ipv4_reason (v4.UnexpectedVersion version) = reason.IpVersion
ipv4_reason (v4.HeaderLengthSmallerThanHeader ihl) = reason.Ipv4HeaderLen

abbrev pub auth_reason : AuthFault → Reason
auth_reason auth.ZeroPayloadLen = reason.AuthHeaderLen

abbrev pub exts_reason : ExtsFault → Reason
exts_reason exts.HopByHopNotAtStart = reason.HopByHopNotFirst
exts_reason (exts.IpAuth e) = auth_reason e

-- why a frame is refused
abbrev pub reason_of : SliceError → Reason
reason_of (fault.Len e) = reason.CutOff e.layer
reason_of (fault.LinuxSll e) = cooked_reason e
reason_of (fault.Macsec e) = macsec_reason e
reason_of (fault.Ip e) = ip_reason e
reason_of (fault.Ipv4 e) = ipv4_reason e
reason_of (fault.Ipv6 e) = reason.IpVersion
reason_of (fault.Ipv4Exts e) = auth_reason e
reason_of (fault.Ipv6Exts e) = exts_reason e
reason_of (fault.Tcp e) = reason.TcpDataOffset

-- why a fragment is refused
abbrev pub fragment_reason : IpDefragError → Reason
fragment_reason (fragment.UnalignedFragmentPayloadLen offset payload_len) = reason.FragmentUnaligned
fragment_reason (fragment.SegmentTooBig offset payload_len max) = reason.FragmentTooLong
fragment_reason (fragment.ConflictingEnd previous_end conflicting_end) = reason.FragmentEnd
fragment_reason (fragment.AllocationFailure len) = reason.FragmentMemory
fragment_reason (fragment.OverlappingFragment offset payload_len) = reason.FragmentOverlap
