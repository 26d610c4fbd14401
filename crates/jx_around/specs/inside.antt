-- Definitions that the contracts of this crate's own functions cite.
pub mod Collecting
