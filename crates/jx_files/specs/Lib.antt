pub mod Faults
pub mod Files
pub mod Naming
pub mod Status
pub mod inside
