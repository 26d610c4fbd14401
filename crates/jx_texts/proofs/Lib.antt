pub mod Chains
pub mod Ends
pub mod Faults
pub mod Lists
pub mod Steps
pub mod Takes
pub mod Told
