pub mod Elements
pub mod Output
pub mod Reports
pub mod RowWords
pub mod inside
