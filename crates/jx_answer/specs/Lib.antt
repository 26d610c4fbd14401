pub mod Answers
pub mod ByNames
pub mod Found
pub mod Named
pub mod Sequence
pub mod Settled
pub mod inside
