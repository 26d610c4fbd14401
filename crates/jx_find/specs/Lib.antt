pub mod Finder
pub mod Findings
pub mod Held
pub mod OnSlice
pub mod PointerTrie
pub mod inside
