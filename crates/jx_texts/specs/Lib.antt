pub mod Output
pub mod Reading
pub mod Texts
pub mod inside
