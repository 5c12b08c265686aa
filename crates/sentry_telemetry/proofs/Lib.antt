pub mod ForClient
pub mod ChangeLemmas
pub mod BatchSending
