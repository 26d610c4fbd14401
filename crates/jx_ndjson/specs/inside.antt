-- Definitions that only the contracts of this crate's own functions cite.
pub mod ElementSteps
pub mod Steps
pub mod Texts
