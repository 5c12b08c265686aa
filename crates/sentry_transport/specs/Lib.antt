pub mod Limits
pub mod QueueHistories
pub mod QueueSteps
pub mod QueueCalls
pub mod QueueCounts
pub mod Transports
