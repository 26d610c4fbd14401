pub mod inside
pub mod LineSaves
pub mod SavedLines
