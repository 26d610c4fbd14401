pub mod Fed
pub mod inside
