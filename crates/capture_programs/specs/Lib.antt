pub mod Closings
pub mod ErrorStatus
pub mod Inputs
pub mod Looks
