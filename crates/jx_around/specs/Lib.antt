pub mod Around
pub mod inside
