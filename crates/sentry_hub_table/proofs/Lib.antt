pub mod TallyLemmas
pub mod NameLemmas
pub mod AllNameLemmas
