pub mod Answered
pub mod NamedLines
pub mod Words
