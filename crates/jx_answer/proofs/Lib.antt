mod ByNames
mod OneAnswer
mod Ones
mod Fronts
mod MovedRows
mod MovedTrees
pub mod NamedThere
mod Pieces
mod Placed
mod Pushing
mod Readable
mod Roots
mod Shown
mod Unmarked
pub mod Verdicts
mod Whole
