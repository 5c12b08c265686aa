pub mod SpanCalls
pub mod EndLemmas
pub mod SendLemmas
