-- Definitions that the contracts of the crates above cite, and no public promise.
pub mod Lines
pub mod ReadPointers
pub mod Room
