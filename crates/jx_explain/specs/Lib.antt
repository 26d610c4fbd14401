pub mod Columns
pub mod Explained
pub mod inside
