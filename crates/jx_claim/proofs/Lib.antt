pub mod Deals
pub mod Pieces
