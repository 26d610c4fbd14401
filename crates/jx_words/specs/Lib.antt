pub mod Answers
pub mod Pointers
pub mod Showing
pub mod Verdicts
pub mod Words
pub mod inside
