pub mod SeekCounted
pub mod Helds
pub mod Soughts
pub mod Finders
pub mod Alone
