pub mod ValueCalls
pub mod Words
pub mod Setups
pub mod Routes
pub mod Locked
pub mod Answers
pub mod CallLists
