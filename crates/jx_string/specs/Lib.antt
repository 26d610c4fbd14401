pub mod CharactersLeft
pub mod Texts
pub mod inside
