pub mod Levels
pub mod Numbers
pub mod Planes
pub mod Whole
pub mod Words
