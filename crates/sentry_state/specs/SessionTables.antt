-- What a table of sessions counts of them.
use Rattle.std.specs.Prelude.{ℕ, Option, Some, None, ◌==◌, if◌then◌else◌}
use Rattle.sentry_base.specs.declared.protocol.keys.ClientKey.{ClientKey}
use Rattle.sentry_sessions.specs.declared.session.record.Session.{Session}

-- the number of a client whose sessions are counted: those of the clients with this tag, if any
abbrev pub counted_client : Option ℕ → ClientKey → Option ℕ
counted_client None client = None
counted_client (Some tag) client = if client.tag == tag then Some client.number else None

-- the number of the client under which a session was started, if its sessions are counted
abbrev pub counted_at : Option ℕ → Session → Option ℕ
counted_at tag session = counted_client tag session.start.client
