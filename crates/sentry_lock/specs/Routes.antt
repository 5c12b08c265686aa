-- What a client that comes or goes does to the transports, by the number of their client.
use Rattle.std.specs.Prelude.{◌≡◌, ◌⊎◌, ℕ, List, Option, Some, None}
use Rattle.sentry_plain.specs.Tables.{put, without}
use Rattle.sentry_state.specs.declared.state.State.{State}
use Rattle.sentry_state.specs.Worlds.{World, Stands}

module _ {T : Type 0} where
  -- the transports with this one under the number, if there is one
  abbrev pub transports_with : List (ℕ × T) → ℕ → Option T → List (ℕ × T)
  transports_with transports number None = transports
  transports_with transports number (Some transport) = put transports number transport

  -- the transport, if there is one, stands under the number of the next client
  abbrev pub AddsTransport : {P C : Type 0} → State P C → Option T → List (ℕ × T) → List (ℕ × T) → Type 0
  AddsTransport {P} {C} engine transport old new =
      (number : ℕ) × (new ≡ transports_with old number transport)
      × ((world : World P C) → Stands engine world → number ≡ world.next.client)

  -- the transports are as they were; or one was put there and forgotten again
  abbrev pub ForgetsTransport : Option T → List (ℕ × T) → List (ℕ × T) → Type 0
  ForgetsTransport transport old new =
      (new ≡ old) ⊎ ((number : ℕ) × (new ≡ without (transports_with old number transport) number))
