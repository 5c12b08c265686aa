-- What a table of sessions keeps of them.
use Rattle.sentry_plain.specs.Counts.{Counts}
use Rattle.sentry_state.specs.SessionTables.{counted_at}
use Rattle.sentry_state.specs.declared.session_table.SessionTable.TheInside.{Inside}

-- each count is that of the sessions of this client
pub record TrueSessions (a : Inside) : Type 0 where
  pub counts : Counts (counted_at a.counted) a.counts a.sessions
