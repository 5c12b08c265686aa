pub mod Exports
pub mod Fetches
pub mod Posting
pub mod SeatFollows
pub mod Seats
