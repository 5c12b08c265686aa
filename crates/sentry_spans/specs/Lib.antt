pub mod Sampling
pub mod Spans
pub mod Prepared
pub mod Discards
pub mod Ends
