pub mod ByteLines
pub mod RelativeNumbers
pub mod Seconds
