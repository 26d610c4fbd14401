pub mod Cells
pub mod Fields
pub mod LineValues
pub mod Reports
pub mod inside
