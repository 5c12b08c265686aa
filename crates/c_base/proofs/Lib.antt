pub mod OutboxLemmas
pub mod QueueLemmas
