pub mod Frames
pub mod Messages
pub mod Numbers
pub mod Requests
pub mod Strings
pub mod Values
pub mod inside
