pub mod Keeping
pub mod TableLemmas
pub mod SpanKeeping
pub mod SessionCounts
