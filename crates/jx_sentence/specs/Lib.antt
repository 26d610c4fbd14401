pub mod Choices
pub mod EarlierName
pub mod Places
pub mod Sentences
pub mod Shown
pub mod Standing
pub mod Words
pub mod inside
