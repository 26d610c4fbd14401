pub mod ReportsAt
pub mod inside
