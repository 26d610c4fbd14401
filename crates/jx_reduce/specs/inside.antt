-- Definitions that only the contracts of this crate's own functions cite.
pub mod Blocks
pub mod Checked
pub mod Follow
pub mod KnownInside
pub mod OpenContainers
pub mod Passed
pub mod Told
pub mod Quiet
pub mod Reducers
pub mod Shifted
pub mod Structures
pub mod View
