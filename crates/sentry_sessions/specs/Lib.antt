pub mod Sessions
pub mod SessionSteps
pub mod SessionLaws
pub mod AggregateOrder
pub mod SessionQueues
pub mod QueueSteps
pub mod TakenSessions
