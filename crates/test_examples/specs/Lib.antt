pub mod LookUps
pub mod Wholes
pub mod inside
