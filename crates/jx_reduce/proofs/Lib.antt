pub mod Along
pub mod Absorbed
pub mod Reached
pub mod Joined
pub mod OneMark
pub mod Bounds
pub mod Readings
pub mod Sound
pub mod Acting
pub mod Runs
pub mod Extended
mod EachInPlace
mod Places
mod HolderSets
mod QuietMarks
mod Exits
mod Checked
mod OfParts
mod Structures
mod StructureReads
mod StructureJoins
mod StructureShifts
pub mod Spans
pub mod Cuts
mod BlockBits
mod BlockMarks
mod BlockWalk
mod KnownAround
mod KnownWords
pub mod KnownMoves
mod Passed
mod Sees
mod OneByOne
mod Shifts
