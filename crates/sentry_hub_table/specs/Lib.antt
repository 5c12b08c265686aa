pub mod Entries
pub mod Tallies
pub mod Hubs
pub mod Names
pub mod TrueNames
