-- for the crates above, beside what is proved of each function
pub mod CommandLemmas
pub mod WrittenLemmas
pub mod WrittenTimes
mod CommandLaws
mod DigitLemmas
mod PrefixLemmas
mod HeadLemmas
mod NumberLemmas
mod ParsedNumbers
mod TimedLemmas
mod WordLemmas
