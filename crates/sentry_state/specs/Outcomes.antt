-- What a call comes to, and what it means that an engine did it.
use Rattle.std.specs.Prelude.{is_ok, ◌≡◌, ℕ, Bool, true, false, Option, Some, None, Result, Ok, Err, List, ◌==◌, if◌then◌else◌}
use Rattle.std.specs.Option.{option_map, is_some, option_and_then}
use Rattle.sentry_plain.specs.Tables.{value_at, replace_at}
use Rattle.sentry_base.specs.declared.protocol.keys.ClientKey.{ClientKey}
use Rattle.sentry_base.specs.declared.protocol.keys.HubKey.{HubKey}
use Rattle.sentry_base.specs.declared.protocol.envelope.Envelope.{Envelope}
use Rattle.sentry_base.specs.declared.protocol.refusal.Refusal.{Refusal}
use Rattle.sentry_base.specs.declared.protocol.refusal.Refusal.TheVariants.{OutOfMemory}
use Rattle.sentry_state.specs.declared.state.ClientState.{ClientState}
use Rattle.sentry_hub_table.specs.declared.hub.HubState.{HubState}
use Rattle.sentry_state.specs.declared.state.Out.{Out}
use Rattle.sentry_state.specs.declared.state.State.{State}
use Rattle.sentry_state.specs.Worlds.{World, ClientHistory, Stands, stored_client, SessionHistory}
use Rattle.sentry_base.specs.declared.protocol.keys.SessionKey.{SessionKey}
use Rattle.sentry_base.specs.declared.protocol.keys.SpanKey.{SpanKey}
use Rattle.sentry_base.specs.declared.protocol.keys.TransactionKey.{TransactionKey}
use Rattle.sentry_span_table.specs.SpanLists.{TransactionHistory, stored_transaction}
use Rattle.sentry_span_table.specs.declared.table.records.SpanRecord.{SpanRecord}
use Rattle.sentry_span_table.specs.declared.table.records.TransactionRecord.{TransactionRecord}

-- what a call comes to: its answer, and the world after it
pub record Outcome (P C T : Type 0) : Type 0 where
  pub answer : Result (Out T) Refusal
  pub after : World P C

-- what a call may run out of
pub data Need : Type 0 where
  memory : Need
  nothing : Need

-- the answer is the one that is expected; or out of memory in place of a reply, where the call needs memory, and never
-- where it needs nothing
abbrev pub IsAnswer : {T : Type 0} → Result (Out T) Refusal → Result (Out T) Refusal → Need → Type 0
IsAnswer expected (Err OutOfMemory) memory = is_ok expected ≡ true
IsAnswer expected (Err OutOfMemory) nothing = ⊥
IsAnswer expected answer need = expected ≡ answer

module _ {P C T : Type 0} where
  -- a refusal, which changes nothing
  abbrev pub refuse : Refusal → World P C → Outcome P C T
  refuse refusal world = record { answer = Err refusal; after = world }

  -- a reply with these envelopes
  abbrev pub reply_with : T → List (ClientKey × Envelope) → World P C → Outcome P C T
  reply_with reply sent world = record { answer = Ok (record { reply = reply; sent = sent }); after = world }

  -- goes on with the value that is there, or refuses
  abbrev pub require_some : {X : Type 0} → Refusal → World P C → Option X → (X → Outcome P C T) → Outcome P C T
  require_some refusal world None go = refuse refusal world
  require_some refusal world (Some x) go = go x

  -- goes on with the value that is there, or ends otherwise
  abbrev pub let_some : {X : Type 0} → Option X → Outcome P C T → (X → Outcome P C T) → Outcome P C T
  let_some None otherwise go = otherwise
  let_some (Some x) otherwise go = go x

  -- goes on where the test holds, or refuses
  abbrev pub require : Refusal → World P C → Bool → Outcome P C T → Outcome P C T
  require refusal world true go = go
  require refusal world false go = refuse refusal world

  -- the call did what its definition says, in every world that the engine stood for; where it was refused, the engine
  -- is the engine before
  abbrev pub DoesWith : Need → State P C → State P C → Result (Out T) Refusal → (World P C → Outcome P C T) → Type 0
  DoesWith need old new (Ok out) outcome =
      (world : World P C) → Stands old world
      → IsAnswer (outcome world).answer (Ok out) need × Stands new (outcome world).after
  DoesWith need old new (Err refusal) outcome =
      (new ≡ old)
      × ((world : World P C) → Stands old world → IsAnswer (outcome world).answer (Err refusal) need)

  -- the same of a call that needs memory
  abbrev pub Does : State P C → State P C → Result (Out T) Refusal → (World P C → Outcome P C T) → Type 0
  Does old new answer outcome = DoesWith memory old new answer outcome

  -- the same of a call that needs nothing, and so never runs out of memory
  abbrev pub DoesWithoutMemory : State P C → State P C → Result (Out T) Refusal → (World P C → Outcome P C T) → Type 0
  DoesWithoutMemory old new answer outcome = DoesWith nothing old new answer outcome

-- what stands under a key, where its tag is the engine's
abbrev pub value_under : {X : Type 0} → ℕ → List (ℕ × X) → ℕ → ℕ → Option X
value_under tag entries key_tag number = if key_tag == tag then value_at entries number else None

module _ {P C : Type 0} where
  abbrev pub client_at : World P C → ClientKey → Option (ClientHistory C)
  client_at world key = value_under world.tag world.clients key.tag key.number

  -- the same as the engine stores it
  abbrev pub stored_client_at : World P C → ClientKey → Option (ClientState C)
  stored_client_at world key = option_map stored_client (client_at world key)

  abbrev pub hub_at : World P C → HubKey → Option (HubState P)
  hub_at world key = value_under world.tag world.hubs key.tag key.number

  -- the world with another hub under a key that it has
  abbrev pub with_hub : World P C → HubKey → HubState P → World P C
  with_hub world key hub = record world { hubs = replace_at world.hubs key.number hub }

  -- no client is named, or one that is held
  abbrev pub is_held_or_none : World P C → Option ClientKey → Bool
  is_held_or_none world None = true
  is_held_or_none world (Some key) = is_some (client_at world key)

  abbrev pub session_at : World P C → SessionKey → Option SessionHistory
  session_at world key = value_under world.tag world.sessions key.tag key.number

  -- the session that a layer names, if it still goes on
  abbrev pub named_session : World P C → Option SessionKey → Option SessionHistory
  named_session world name = option_and_then (session_at world) name

  abbrev pub transaction_at : World P C → TransactionKey → Option TransactionHistory
  transaction_at world key = value_under world.tag world.transactions key.tag key.number

  -- the same as the engine stores it
  abbrev pub stored_transaction_at : World P C → TransactionKey → Option TransactionRecord
  stored_transaction_at world key = option_map stored_transaction (transaction_at world key)

  abbrev pub span_at : World P C → SpanKey → Option SpanRecord
  span_at world key = value_under world.tag world.spans key.tag key.number
