-- Definitions that the contracts of this crate's own functions cite, and no public one.
pub mod Adding
pub mod Cutting
pub mod RowsPart
pub mod Texts
pub mod ValuesTeller
