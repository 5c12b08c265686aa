-- What the laws refuse.
use Rattle.std.specs.Prelude.{◌≡◌, ◌≢◌, ℕ, true, None, Some, List, [], ◌∷◌, Result, Ok}
use Rattle.std.specs.Option.{option_map}
use Rattle.sentry_plain.specs.Tables.{value_at}
use Rattle.sentry_base.specs.declared.protocol.envelope.Envelope.{Envelope}
use Rattle.sentry_base.specs.declared.protocol.envelope.EnvelopeItem.TheVariants as item
use Rattle.sentry_base.specs.declared.protocol.ids.TraceId.{TraceId}
use Rattle.sentry_base.specs.declared.protocol.keys.ClientKey.{ClientKey}
use Rattle.sentry_base.specs.declared.protocol.keys.HubKey.{HubKey}
use Rattle.sentry_base.specs.declared.protocol.keys.SessionKey.{SessionKey}
use Rattle.sentry_base.specs.declared.protocol.log.Log.{Log}
use Rattle.sentry_base.specs.declared.protocol.refusal.Refusal.{Refusal}
use Rattle.sentry_base.specs.declared.protocol.session.SessionStatus.TheVariants as session_status
use Rattle.sentry_base.specs.declared.protocol.session.SessionUpdate.{SessionUpdate}
use Rattle.sentry_base.specs.declared.protocol.span.Span.{Span}
use Rattle.sentry_base.specs.declared.protocol.transaction.Transaction.{Transaction}
use Rattle.sentry_options.specs.Meanings.{Meanings}
use Rattle.sentry_batches.specs.Batches.{accept, cut, queued_items}
use Rattle.sentry_scope.specs.declared.scope.Scope.{Scope}
use Rattle.sentry_scope.specs.declared.scope.edit.ScopeEdit.{ScopeEdit}
use Rattle.sentry_scope.specs.Stacks.{one_layer}
use Rattle.sentry_hub_table.specs.declared.hub.HubState.{HubState}
use Rattle.sentry_state.specs.declared.state.Out.{Out}
use Rattle.sentry_state.specs.Outcomes.{session_at}
use Rattle.sentry_state.specs.Worlds.{World, ClientHistory, SessionHistory}
use Rattle.sentry_calls.specs.declared.call.Call.TheVariants as group
use Rattle.sentry_calls.specs.declared.call.clients.ClientCall.TheVariants.{Flush, Close}
use Rattle.sentry_calls.specs.declared.call.hubs.HubCall.TheVariants.{NewHub, NewHubFromTop, Configure}
use Rattle.sentry_calls.specs.declared.call.Reply.{Reply}
use Rattle.sentry_calls.specs.declared.call.Reply.TheVariants as reply
use Rattle.sentry_laws.specs.Closed.{ClosedByCalls}
use Rattle.sentry_laws.specs.OwnCalls.{IsIsolated, without_sessions}
use Rattle.sentry_laws.specs.Reachable.{SessionsAreNamed}
use Rattle.sentry_laws.specs.SentItems.{SendsAcceptedLogs}
use Rattle.sentry_laws.specs.Statuses.{status_of, SessionsGoOn}
use Rattle.sentry_laws.specs.Traces.{trace_named, AreInTrace}
use Rattle.sentry_laws.specs.Updates.{StaysEnded}

module _ {P C : Type 0} where
  abbrev pub replied : Reply P C → Result (Out (Reply P C)) Refusal
  replied r = Ok (record { reply = r; sent = [] })

abbrev pub hub_key : ℕ → ℕ → HubKey
hub_key tag number = record { tag = tag; number = number }

-- a hub, one made from it, and edits of the second: the first keeps the scope that it was made with
abbrev pub DerivedHubLeavesMaker : (P C : Type 0) → (C → Meanings) → Type 0
DerivedHubLeavesMaker P C meanings =
    (tag now : ℕ) (scope : Scope P) (edits : List (ScopeEdit P)) (last : World P C)
    → IsIsolated meanings
    (group.Hub (NewHub None scope) ∷ group.Hub (NewHubFromTop (hub_key tag 0))
    ∷ group.Hub (Configure (hub_key tag 1) edits now) ∷ [])
    (replied (reply.Hub (hub_key tag 0)) ∷ replied (reply.Hub (hub_key tag 1)) ∷ replied reply.Done ∷ [])
    last
    → option_map (λ (hub : HubState P). without_sessions hub.stack) (value_at last.hubs 0) ≡ Some (one_layer None scope)

-- a flush that hands out nothing of a log that waited
abbrev pub SilentFlushIsRefused : Type 0 → Type 0 → Type 0
SilentFlushIsRefused P C =
    (world : World P C) (key : ClientKey) (client : ClientHistory C) (log : Log)
    → value_at world.clients 0 ≡ Some client → client.occupied ≡ true → client.queues.logs ≡ cut ∷ accept log ∷ []
    → SendsAcceptedLogs (group.Client (Flush key) ∷ []) (replied {P = P} {C = C} reply.Done ∷ []) world → ⊥

-- a close that leaves a log waiting
abbrev pub KeptLogIsRefused : Type 0 → Type 0 → Type 0
KeptLogIsRefused P C =
    (world : World P C) (key : ClientKey) (client : ClientHistory C) (log : Log)
    → value_at world.clients key.number ≡ Some client
    → queued_items client.options.plain.max_batch_items client.queues.logs ≡ log ∷ []
    → ClosedByCalls (group.Client (Close key) ∷ []) (replied {P = P} {C = C} reply.Done ∷ []) world → ⊥

-- an update by which a session crashed, after one by which it had exited
abbrev pub LaterCrashIsRefused : Type 0
LaterCrashIsRefused =
    (first later : SessionUpdate) → later.session_id ≡ first.session_id → first.status ≡ session_status.Exited
    → later.status ≡ session_status.Crashed → StaysEnded first.session_id (first ∷ later ∷ []) → ⊥

-- a session that crashed, and that has exited in a later world
abbrev pub OverwrittenStatusIsRefused : Type 0 → Type 0 → Type 0
OverwrittenStatusIsRefused P C =
    (world next : World P C) (number : ℕ) (before after : SessionHistory) → value_at world.sessions number ≡ Some before
    → value_at next.sessions number ≡ Some after → status_of before ≡ session_status.Crashed
    → status_of after ≡ session_status.Exited → SessionsGoOn world next → ⊥

-- a transaction with a span in another trace than the one that the header of its envelope names
abbrev pub ForeignSpanIsRefused : Type 0
ForeignSpanIsRefused =
    (key : ClientKey) (envelope : Envelope) (transaction : Transaction) (span : Span) (trace_id : TraceId)
    → envelope.items ≡ item.Transaction transaction ∷ [] → transaction.spans ≡ span ∷ []
    → trace_named envelope.header ≡ Some trace_id → span.trace_id ≢ trace_id
    → AreInTrace None ((key, envelope) ∷ []) → ⊥

-- a session that is still held where no hub is left
abbrev pub OutlivingSessionIsRefused : Type 0 → Type 0 → Type 0
OutlivingSessionIsRefused P C =
    (world : World P C) (key : SessionKey) (session : SessionHistory) → world.hubs ≡ []
    → session_at world key ≡ Some session → SessionsAreNamed world → ⊥
