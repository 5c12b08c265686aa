pub mod Filters
pub mod Members
pub mod Metrics
