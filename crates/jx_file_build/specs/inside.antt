-- Definitions that only the contracts of this crate's own functions cite.
pub mod ChunkNames
pub mod NameBlocks
pub mod NamedChunks
pub mod OpenKinds
pub mod Tallied
