pub mod Changes
pub mod Escapes
pub mod Nodes
pub mod Parts
pub mod Spelt
