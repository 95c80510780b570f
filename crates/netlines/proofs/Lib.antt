-- for the crates above, beside what is proved of each function
pub mod AnswerLemmas
pub mod PostLemmas
pub mod WrittenLines
mod AcceptedWaiting
mod AllPosted
mod AloneLemmas
mod ArrivalLemmas
mod ChangedFragment
mod ChangedMessage
mod ChangedReplay
mod ChangedWordLemmas
mod ChannelLemmas
mod CoverLemmas
mod ExtensionNumbers
mod FirstCover
mod FragmentLemmas
mod FrameLemmas
mod InOrder
mod InertLemmas
mod JoinedLemmas
mod LetterLemmas
mod MessageFragments
mod OnlyPosted
mod PostedAnswer
mod PostedFragmentation
mod PostedFragments
mod PostedFrames
mod ReadLemmas
mod Reassembled
mod ReplayLemmas
mod SealedLemmas
mod ShapeLemmas
mod TwoFragmentLemmas
mod UnrefusedLemmas
mod WaitingLemmas
