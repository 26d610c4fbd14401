pub mod Claimed
pub mod Cut
pub mod CutFaults
pub mod Undrawn
pub mod inside
