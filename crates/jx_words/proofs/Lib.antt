pub mod LineSteps
pub mod PointerSteps
pub mod PointersFound
pub mod PutSteps
pub mod Shown
pub mod Verdicts
