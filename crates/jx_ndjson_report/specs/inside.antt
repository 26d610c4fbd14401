-- Definitions that only the contracts of this crate's own functions cite.
pub mod ElementTeller
pub mod FirstSteps
pub mod LinePasser
pub mod LineSteps
pub mod LineTeller
pub mod PassSteps
pub mod Shared
