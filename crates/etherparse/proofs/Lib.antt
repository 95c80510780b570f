-- for the crates above, beside what is proved of each function
pub mod AcceptedOutcomes
pub mod Clash
pub mod Complete
pub mod Disjoint
pub mod Found
pub mod FrameTags
pub mod ListElements
pub mod OutcomeLemmas
pub mod Push
pub mod Retaining
pub mod Rooms
pub use Rattle.ep_base.proofs.Same
mod Accepted
mod AcceptedLists
mod Added
mod AppendIp
mod BufferSlots
mod BuiltFrames
mod BuiltPackets
mod BuiltSums
mod CallAnswers
pub mod CallLemmas
mod FramedIpv4
mod FramedIpv6
mod Halving
mod HasBytesLemmas
mod JoinedDatagrams
mod Joining
mod Kept
mod KeptMemory
mod LateWrites
mod Lengths
mod LinkedExts
mod Literals
mod NamesAfter
mod OpenAtLiterals
mod OpenCount
mod Ordered
mod ReassemblyRooms
mod Returned
mod SameBuffers
mod SameCalls
mod Sharing
mod StartLinks
mod StartNames
mod StartRings
mod StartTotals
mod StartWrites
mod StoredOrder
mod TableTotals
mod TimestampLemmas
mod Tracked
mod ViewedRows
mod Waiting
mod WholeMessageLemmas
mod Written
mod WrittenOver
