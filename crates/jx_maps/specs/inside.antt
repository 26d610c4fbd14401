-- Definitions that only the contracts of this crate's own functions cite.
pub mod Bundle
pub mod Closed
pub mod Passing
pub mod Pruned
pub mod Step
