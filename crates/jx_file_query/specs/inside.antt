-- Definitions that only the contracts of this crate's own functions cite.
pub mod Blocks
pub mod Marked
pub mod Members
pub mod Over
pub mod PassedChunks
pub mod Stretch
