pub mod Decodings
pub mod Entries
pub mod Fitting
pub mod Starts
pub mod Told
