pub mod Elements
pub mod Counts
pub mod Alike
pub mod Reports
pub mod Values
pub mod NameTexts
pub mod inside
