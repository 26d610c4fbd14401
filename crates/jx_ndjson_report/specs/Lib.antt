pub mod Elements
pub mod First
pub mod Output
pub mod PassReports
pub mod Passed
pub mod inside
