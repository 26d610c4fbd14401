pub mod LinesAt
pub mod ReportsAt
pub mod inside
