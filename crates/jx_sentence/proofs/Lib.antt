pub mod Behind
pub mod Exact
pub mod Listed
pub mod ShownPieces
pub mod Standings
pub mod Table
