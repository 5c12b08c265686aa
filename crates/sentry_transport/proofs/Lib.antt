mod LimitLemmas
mod QueueLemmas
mod RecordingLemmas
mod CountLemmas
mod Crossing
mod MadeLemmas
