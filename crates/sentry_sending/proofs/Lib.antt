pub mod SendingLemmas
pub mod TakenLemmas
