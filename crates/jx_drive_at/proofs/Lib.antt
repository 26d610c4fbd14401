pub mod InRounds
