pub mod AsBox
pub mod Posted
pub mod RawBox
mod Sent
pub mod Told
