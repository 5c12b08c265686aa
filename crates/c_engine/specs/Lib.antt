pub mod Calls
pub mod Engines
pub mod Keys
pub mod Moments
pub mod Named
pub mod Rates
