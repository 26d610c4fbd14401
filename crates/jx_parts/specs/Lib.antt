pub mod Records
pub mod Refusals
pub mod Reports
pub mod inside
