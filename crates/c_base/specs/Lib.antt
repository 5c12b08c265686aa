pub mod Faults
pub mod Numbers
pub mod Outboxes
pub mod Queues
