-- Definitions that only the contracts of this crate's own functions cite.
pub mod Batches
pub mod IndexAnswers
pub mod Pages
pub mod PointerReads
pub mod Sequences
pub mod Replies
