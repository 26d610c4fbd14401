mod Answers
pub mod AnyNames
mod BatchSteps
pub mod Columns
mod ElementSteps
mod FirstBytes
mod LineEnds
mod OneOutput
mod PageSteps
mod RowSteps
mod SequenceSteps
mod PointerReads
pub mod PointerReplies
