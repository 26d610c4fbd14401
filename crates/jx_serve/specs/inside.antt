pub mod BadLines
pub mod Leading
pub mod LineTables
pub mod Names
pub mod Sound
