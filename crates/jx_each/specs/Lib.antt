pub mod Due
pub mod Each
pub mod Sections
pub mod Machine
pub mod Turns
pub mod inside
