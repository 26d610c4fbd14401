-- Definitions that the contracts of this crate's own functions cite, and no public one.
pub mod Alone
