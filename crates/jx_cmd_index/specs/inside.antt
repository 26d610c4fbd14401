-- Definitions that only the contracts of this crate's own functions cite.
pub mod Alone
pub mod Faults
pub mod HeldChunks
pub mod IndexAt
pub mod Looked
pub mod Saving
pub mod Shown
pub mod Splitting
pub mod Texts
pub mod ValueLines
