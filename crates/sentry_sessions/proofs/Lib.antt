pub mod SessionLemmas
pub mod AggregateLemmas
pub mod QueueLemmas
