-- A pop undoes the push whose layer it pops, whatever came between.
use Rattle.std.specs.Prelude.{◌≡◌, ℕ, Bool, false, Option, List, [], ◌∷◌, ◌==◌, ◌&&◌, Result, Ok, Err}
use Rattle.std.specs.Option.{option_map}
use Rattle.sentry_plain.specs.Tables.{value_at}
use Rattle.sentry_base.specs.Callbacks.{Partial}
use Rattle.sentry_base.specs.declared.protocol.keys.HubKey.{HubKey}
use Rattle.sentry_base.specs.declared.protocol.refusal.Refusal.{Refusal}
use Rattle.sentry_options.specs.Meanings.{Meanings}
use Rattle.sentry_scope.specs.declared.scope.stack.Stack.{Stack}
use Rattle.sentry_hub_table.specs.declared.hub.HubState.{HubState}
use Rattle.sentry_state.specs.declared.state.Out.{Out}
use Rattle.sentry_state.specs.Worlds.{World, starting_world}
use Rattle.sentry_calls.specs.declared.call.Call.{Call}
use Rattle.sentry_calls.specs.declared.call.Call.TheVariants as group
use Rattle.sentry_calls.specs.declared.call.hubs.HubCall.TheVariants.{PushScope, PopScope}
use Rattle.sentry_calls.specs.declared.call.Reply.{Reply}
use Rattle.sentry_calls.specs.declared.call.Reply.TheVariants as reply
use Rattle.sentry_calls.specs.Runs.{Run}
use Rattle.sentry_laws.specs.PartsOfRuns.{FromEachCall, IfElse}

module _ {P C : Type 0} where
  -- the call pops the layer of this depth of a hub
  abbrev pub pops : ℕ → ℕ → Call P C → Bool
  pops number depth (group.Hub (PopScope hub given now)) = (hub.number == number) && (given == depth)
  pops number depth call = false

  -- the layers of a hub
  abbrev pub stack_at : World P C → ℕ → Option (Stack P)
  stack_at world number = option_map (λ (hub : HubState P). hub.stack) (value_at world.hubs number)

module _ {P C : Type 0} (gives : P → Partial) (meanings : C → Meanings) where
  -- the first accepted call that pops this layer, if there is one, leaves the hub these layers
  abbrev pub PopLeaves : ℕ → ℕ → Option (Stack P) → (world : World P C) (calls : List (Call P C))
      (answers : List (Result (Out (Reply P C)) Refusal)) (last : World P C)
      → Run gives meanings world calls answers last → Type 0
  PopLeaves number depth stack world (call ∷ calls) (Ok out ∷ answers) last run =
      IfElse (pops number depth call) (stack_at run.0 number ≡ stack)
      (PopLeaves number depth stack run.0 calls answers last run.2)
  PopLeaves number depth stack world (call ∷ calls) (Err refusal ∷ answers) last run =
      PopLeaves number depth stack run.0 calls answers last run.2
  PopLeaves number depth stack world [] answers last run = Unit {0}
  PopLeaves number depth stack world (call ∷ calls) [] last run = Unit {0}

  -- a run that begins with a push: whatever comes then, the pop of the new layer leaves the hub the layers that it had
  -- before the push
  abbrev pub UndoesPush : (world : World P C) (calls : List (Call P C))
      (answers : List (Result (Out (Reply P C)) Refusal)) (last : World P C)
      → Run gives meanings world calls answers last → Type 0
  UndoesPush world (call ∷ calls) (Ok out ∷ answers) last run =
      (hub : HubKey) (depth : ℕ) → call ≡ group.Hub (PushScope hub) → out.reply ≡ reply.Depth depth
      → PopLeaves hub.number depth (stack_at world hub.number) run.0 calls answers last run.2
  UndoesPush world (call ∷ calls) (Err refusal ∷ answers) last run = Unit {0}
  UndoesPush world [] answers last run = Unit {0}
  UndoesPush world (call ∷ calls) [] last run = Unit {0}

  -- it is so of each push of a run
  abbrev pub PushesAreUndone : (world : World P C) (calls : List (Call P C))
      (answers : List (Result (Out (Reply P C)) Refusal)) (last : World P C)
      → Run gives meanings world calls answers last → Type 0
  PushesAreUndone world calls answers last run = FromEachCall gives meanings UndoesPush world calls answers last run

  -- and of each run from where another one ended
  abbrev pub PopUndoesPush : Type 0
  PopUndoesPush =
      (tag start : ℕ) (earlier calls : List (Call P C)) (before answers : List (Result (Out (Reply P C)) Refusal))
      (first last : World P C) → Run gives meanings (starting_world tag start) earlier before first
      → (run : Run gives meanings first calls answers last) → PushesAreUndone first calls answers last run
