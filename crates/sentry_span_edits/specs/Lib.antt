pub mod Edits
pub mod Setters
pub mod Reads
pub mod Requests
