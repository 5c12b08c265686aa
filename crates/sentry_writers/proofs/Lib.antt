mod WritingLemmas
mod DigitLemmas
mod EndLemmas
mod NameLemmas
mod PutLemmas
mod UsageLemmas
mod WholeLemmas
