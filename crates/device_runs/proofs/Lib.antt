pub mod CallLemmas
pub mod Going
pub mod KnownLemmas
pub mod WriteLemmas
