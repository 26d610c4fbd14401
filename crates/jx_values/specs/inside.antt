-- Definitions that only the contracts of this crate's own functions cite.
pub mod Characters
pub mod ElementsTeller
pub mod Kept
pub mod Moved
pub mod Replies
pub mod Showing
pub mod Sought
pub mod Tally
