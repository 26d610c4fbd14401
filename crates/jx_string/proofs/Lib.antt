pub mod CharacterSteps
pub mod Strings
pub mod UnitSteps
