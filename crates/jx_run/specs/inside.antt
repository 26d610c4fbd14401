-- Definitions that only the contracts of this crate's own functions cite.
pub mod Beside
pub mod Closing
pub mod Joins
pub mod MarkedElements
pub mod Moved
pub mod PartedJoins
pub mod Past
pub mod Reduced
pub mod Rest
pub mod Turns
