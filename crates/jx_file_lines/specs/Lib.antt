pub mod Feeding
pub mod Lines
pub mod Places
pub mod Saved
pub mod Spelling
pub mod TextLines
