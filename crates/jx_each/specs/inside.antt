-- Definitions that only the contracts of this crate's own functions cite.
pub mod Blocks
pub mod Deep
pub mod Flat
pub mod Fronted
pub mod Fronts
pub mod Paths
pub mod Runs
pub mod Stretches
