pub mod Faults
pub mod Offsets
pub mod Parts
pub mod Verdict
pub mod inside
