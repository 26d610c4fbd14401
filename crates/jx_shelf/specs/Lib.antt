pub mod ShelfFaults
pub mod Shelved
