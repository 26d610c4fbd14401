pub mod Follow
pub mod Map
pub mod Shared
pub mod View
pub mod inside
