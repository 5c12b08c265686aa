-- What is taken out of a queue of ended sessions.
use Rattle.std.specs.Prelude.{◌<◌, ◌++◌, List, vec_len, vec_capacity}
use Rattle.sentry_base.specs.declared.protocol.envelope.Envelope.{Envelope}
use Rattle.sentry_sessions.specs.SessionQueues.{envelope_if_any}
use Rattle.sentry_sessions.specs.declared.session.taken.TakenSessions.{TakenSessions}

-- the counts in one envelope, and the other updates in the next
abbrev pub taken_envelopes : TakenSessions → List Envelope
taken_envelopes taken = envelope_if_any taken.counted.items ++ envelope_if_any taken.individual.items

-- there is room for a report in each
pub record HasRoom (taken : TakenSessions) : Type 0 where
  pub counted : vec_len taken.counted < vec_capacity taken.counted
  pub individual : vec_len taken.individual < vec_capacity taken.individual
