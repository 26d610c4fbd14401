pub mod Inputs
pub mod Orders
