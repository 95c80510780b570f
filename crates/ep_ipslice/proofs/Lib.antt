mod CutPackets
mod Cuts
mod FaultOffsets
mod Faults
mod FirstFault
pub mod Found
pub mod IpParts
mod Ipv4Parts
mod Ipv6At
mod Ipv6Parts
mod LaxIpv4
mod LaxIpv6
mod LaxLaws
pub mod LaxOffsets
mod Left
mod MoreBytes
mod InSlots
mod SamePayloads
mod SameViews
mod ViewWalk
pub mod Packets
