pub mod BuildWriteError
pub mod Built
pub mod BuiltFrameExamples
pub mod BuiltFrames
pub mod BuiltLaws
pub mod BuiltSteps
pub mod Counts
pub mod DeferredBytes
pub mod FragmentBytes
pub mod Fragments
pub mod IpDefragBuf
pub mod IpDefragError
pub mod IpDefragPool
pub mod IpFragId
pub mod IpFragRange
pub mod Joined
pub mod JoinedCalls
pub mod Memory
pub mod OpenReassemblies
pub mod Outcome
pub mod PacketImpl
pub mod PacketState
pub mod PoolCalls
pub mod PoolTimestamps
pub mod Processed
pub mod ReassemblyTable
pub mod Refused
pub mod Repeats
pub mod Room
pub mod SpareBuffers
pub mod StartOrder
pub mod StartedBytes
pub mod Starts
pub mod StoredFragment
pub mod Timestamps
pub use Rattle.ep_base.specs as base
pub use Rattle.ep_ext.specs as ext
pub use Rattle.ep_icmp.specs as icmp
pub use Rattle.ep_ip.specs as ip
pub use Rattle.ep_ipslice.specs as ipslice
pub use Rattle.ep_link.specs as link
pub use Rattle.ep_packet.specs as packet
pub use Rattle.ep_tag.specs as tag
pub use Rattle.ep_tcpudp.specs as tcpudp
