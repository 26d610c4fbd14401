pub mod Beginnings
pub mod Faults
