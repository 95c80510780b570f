pub mod Commands
pub mod Prefixes
pub mod Numbers
pub mod Reads
pub mod Request
pub mod TimedLines
pub mod Written
