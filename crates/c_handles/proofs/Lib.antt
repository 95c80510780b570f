pub mod HandleProofs
pub mod HandleValues
mod LooseValues
