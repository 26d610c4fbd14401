pub mod Session
pub mod inside
