pub mod Calls
pub mod Commands
pub mod Engines
pub mod Answers
pub mod Faults
pub mod Lines
pub mod Reading
pub mod Replays
