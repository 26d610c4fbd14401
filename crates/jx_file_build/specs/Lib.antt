pub mod Held
pub mod Indexer
pub mod inside
pub mod LoneChunk
pub mod TextTables
