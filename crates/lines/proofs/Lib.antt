-- for the crates above, beside what is proved of each function
pub mod Going
pub mod SplitLemmas
mod AnswersLemmas
pub mod Feeding
mod LineLemmas
mod MemoryLemmas
mod SessionLemmas
mod SplitLaws
mod WriteLemmas
