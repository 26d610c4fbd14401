pub mod ElementTakes
pub mod FirstTakes
pub mod PassWrites
pub mod Passes
pub mod PassedTexts
pub mod Told
pub mod Takes
pub mod Seams
