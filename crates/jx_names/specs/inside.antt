-- Definitions that the contracts of this crate's own functions cite.
pub mod ApartKeys
pub mod HeldNames
pub mod InArrays
pub mod KeptNames
pub mod NameBytes
pub mod SliceNames
