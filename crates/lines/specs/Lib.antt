pub mod AnswerRuns
pub mod Endings
pub mod Known
pub mod LineAnswers
pub mod Lines
pub mod Sessions
pub mod Writes
