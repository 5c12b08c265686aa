pub mod Filters
pub mod Mappings
