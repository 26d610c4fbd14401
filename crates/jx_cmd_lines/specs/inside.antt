-- Definitions that only the contracts of this crate's own functions cite.
pub mod Reading
