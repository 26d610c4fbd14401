pub mod Heads
pub mod RecordSteps
pub mod Refused
pub mod Sizes
pub mod Taken
