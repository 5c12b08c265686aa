-- What a call changes, for all laws: what the clause of `IsIsolated` sees of it, and more.
use Rattle.std.specs.Prelude.{ℕ, Option, List, [], ◌∷◌, ◌++◌, map}
use Rattle.sentry_base.specs.declared.protocol.client_report.ClientReport.{ClientReport}
use Rattle.sentry_base.specs.declared.protocol.keys.Label.{Label}
use Rattle.sentry_base.specs.declared.protocol.keys.SessionKey.{SessionKey}
use Rattle.sentry_options.specs.Meanings.{Meanings}
use Rattle.sentry_calls.specs.declared.call.Call.{Call}
use Rattle.sentry_calls.specs.declared.call.Call.TheVariants as group
use Rattle.sentry_calls.specs.declared.call.clients.ClientCall.{ClientCall}
use Rattle.sentry_calls.specs.declared.call.clients.ClientCall.TheVariants.{Absorb, Close, TakeReport, DropClient, ClientCaptureLog, ClientCaptureMetric}
use Rattle.sentry_calls.specs.declared.call.hubs.HubCall.{HubCall}
use Rattle.sentry_calls.specs.declared.call.hubs.HubCall.TheVariants.{StartSession, CaptureLog, CaptureMetric}
use Rattle.sentry_calls.specs.declared.call.Reply.{Reply}
use Rattle.sentry_calls.specs.declared.call.Reply.TheVariants as reply
use Rattle.sentry_laws.specs.OwnCalls as own

-- what a call may bring to the queues of a client
pub data Came : Type 0 where
  a_log : Came
  a_metric : Came
  -- the last flush, after which nothing comes any more
  a_close : Came

pub data Effect (P C : Type 0) : Type 0 where
  -- what the clause sees
  seen : own.Effect P C → Effect P C
  -- the top layer of a hub names this session, or none
  session_named : ℕ → Option SessionKey → Effect P C
  -- drained losses went into the book of a label
  losses_absorbed : Label → List ℕ → Effect P C
  -- the report of a label was taken, if there was one
  report_taken : Label → Option ClientReport → Effect P C
  -- a session with this id may start on the top layer of a hub
  session_begun : ℕ → List ℕ → Effect P C
  -- the client with this number was dropped
  client_dropped : ℕ → Effect P C
  -- this may have come to the queues of a client
  came_to_queues : Came → Effect P C

module _ {P C : Type 0} where
  -- what the clause doesn't see of an accepted call on a client with this reply
  abbrev pub more_by_client : ClientCall P C → Reply P C → List (Effect P C)
  more_by_client (Absorb label lost) made = losses_absorbed label lost.quantities ∷ []
  more_by_client (ClientCaptureLog client log scope) made = came_to_queues a_log ∷ []
  more_by_client (ClientCaptureMetric client draft scope now) made = came_to_queues a_metric ∷ []
  more_by_client (Close client) made = came_to_queues a_close ∷ []
  more_by_client (DropClient client) made = client_dropped client.number ∷ []
  more_by_client (TakeReport label) (reply.Report report) = report_taken label report ∷ []
  more_by_client call made = []

  -- nor of one on a hub; names of sessions don't count
  abbrev pub more_by_hub : HubCall P → List (Effect P C)
  more_by_hub (CaptureLog hub log) = came_to_queues a_log ∷ []
  more_by_hub (CaptureMetric hub draft now) = came_to_queues a_metric ∷ []
  more_by_hub (StartSession hub fresh) = session_begun hub.number fresh.uuid ∷ []
  more_by_hub call = []

module _ {P C : Type 0} (meanings : C → Meanings) where
  abbrev pub client_effects : ClientCall P C → Reply P C → List (Effect P C)
  client_effects call made = more_by_client call made ++ map seen (own.client_effects meanings call made)

  abbrev pub hub_effects : HubCall P → Reply P C → List (Effect P C)
  hub_effects call made = more_by_hub call ++ map seen (own.hub_effects meanings call made)

  -- what an accepted call with this reply changes
  abbrev pub effects : Call P C → Reply P C → List (Effect P C)
  effects (group.Client call) made = client_effects call made
  effects (group.Hub call) made = hub_effects call made
  effects (group.Span call) made = []
