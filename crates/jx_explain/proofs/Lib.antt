pub mod FirstPass
pub mod Standings
