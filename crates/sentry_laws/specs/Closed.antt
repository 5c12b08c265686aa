-- Which clients are closed, by the calls, and that nothing of theirs waits.
use Rattle.std.specs.Prelude.{◌≡◌, ℕ, Bool, true, false, List, [], ◌∷◌, ◌==◌, ◌||◌, Some, Result, Ok, Err}
use Rattle.sentry_plain.specs.Tables.{value_at}
use Rattle.sentry_base.specs.declared.protocol.refusal.Refusal.{Refusal}
use Rattle.sentry_batches.specs.Batches.{queued_items}
use Rattle.sentry_state.specs.declared.state.Out.{Out}
use Rattle.sentry_state.specs.Worlds.{World, ClientHistory}
use Rattle.sentry_calls.specs.declared.call.Call.{Call}
use Rattle.sentry_calls.specs.declared.call.Call.TheVariants as group
use Rattle.sentry_calls.specs.declared.call.clients.ClientCall.TheVariants.{Close}
use Rattle.sentry_calls.specs.declared.call.Reply.{Reply}

module _ {P C : Type 0} where
  -- the call, if it is accepted, closes the client with this number
  abbrev pub closes : ℕ → Call P C → Bool
  closes number (group.Client (Close key)) = number == key.number
  closes number call = false

  -- one of these calls that were accepted closes it
  abbrev pub is_closed_by : ℕ → List (Call P C) → List (Result (Out (Reply P C)) Refusal) → Bool
  is_closed_by number (call ∷ calls) (Ok out ∷ answers) = closes number call || is_closed_by number calls answers
  is_closed_by number (call ∷ calls) (Err refusal ∷ answers) = is_closed_by number calls answers
  is_closed_by number [] answers = false
  is_closed_by number (call ∷ calls) [] = false

module _ {C : Type 0} where
  -- no log and no metric of the client waits
  abbrev pub HasNothingWaiting : ClientHistory C → Type 0
  HasNothingWaiting client =
      (queued_items client.options.plain.max_batch_items client.queues.logs ≡ [])
      × (queued_items client.options.plain.max_batch_items client.queues.metrics ≡ [])

module _ {P C : Type 0} where
  -- each client that is held is closed exactly if an accepted call closed it, and then nothing of its waits
  abbrev pub ClosedByCalls : List (Call P C) → List (Result (Out (Reply P C)) Refusal) → World P C → Type 0
  ClosedByCalls calls answers last =
      (number : ℕ) (client : ClientHistory C) → value_at last.clients number ≡ Some client
      → (client.closed ≡ is_closed_by number calls answers)
      × (is_closed_by number calls answers ≡ true → HasNothingWaiting client)
