pub mod Choices
pub mod Fields
pub mod Portion
pub mod Reading
pub mod inside
pub mod Spelling
