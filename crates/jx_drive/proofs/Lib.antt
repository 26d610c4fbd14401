pub mod Writes
pub mod Reports
pub mod Steps
