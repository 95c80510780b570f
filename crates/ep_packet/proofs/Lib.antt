mod Agreement
mod AheadFrames
mod AheadIp
mod AheadKept
mod AheadMessages
mod AheadNet
pub mod ClassLemmas
mod CutHeaders
mod CutPackets
mod FaultLemmas
mod FoundLemmas
mod FoundTagsLemmas
mod FrameFaults
mod HeaderLemmas
mod HeadersAt
mod HeadersFound
mod HeadersOfLayers
mod HeadersOfMessages
mod HeadersOfPackets
mod HeadersOfTags
mod LaxCutLemmas
mod LaxFitsLemmas
mod LaxHeadersAt
mod LaxHeadersLemmas
mod LaxLayersLemmas
mod LaxPayloads
mod LaxSameHeaderLemmas
pub mod LaxTagsLemmas
mod LaxViewLemmas
mod LaxWholeHeaderLemmas
mod LaxWholeLemmas
mod MessageFaults
mod MoreBytes
mod PacketViewLemmas
pub mod PartsLemmas
mod ReadHeaders
mod SameClasses
mod SameHeaderParts
mod SameNet
mod SamePackets
mod SlicedLemmas
mod StopLengths
mod TagFaults
mod TaggedLaws
pub mod TagsLemmas
