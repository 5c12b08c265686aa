pub mod AnswerLemmas
pub mod CommandLemmas
pub mod DsnLemmas
pub mod LineLemmas
pub mod ReadingLemmas
pub mod ReplayLemmas
pub mod WriteLemmas
