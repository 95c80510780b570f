pub mod Calls
pub mod Endings
pub mod Known
pub mod Runs
pub mod Writes
