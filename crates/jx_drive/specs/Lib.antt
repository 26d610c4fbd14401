pub mod Reports
pub mod inside
