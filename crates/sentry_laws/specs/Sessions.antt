-- Sessions that have ended: a second end of a layer's session.
use Rattle.std.specs.Prelude.{◌≡◌, ◌==◌, ℕ, zero, suc, List, [], ◌∷◌, Result, Ok, Err, if◌then◌else◌}
use Rattle.sentry_base.specs.Callbacks.{Partial}
use Rattle.sentry_base.specs.declared.protocol.keys.HubKey.{HubKey}
use Rattle.sentry_base.specs.declared.protocol.refusal.Refusal.{Refusal}
use Rattle.sentry_base.specs.declared.protocol.session.SessionStatus.{SessionStatus}
use Rattle.sentry_options.specs.Meanings.{Meanings}
use Rattle.sentry_state.specs.declared.state.Out.{Out}
use Rattle.sentry_state.specs.Worlds.{World, starting_world}
use Rattle.sentry_calls.specs.declared.call.Call.{Call}
use Rattle.sentry_calls.specs.declared.call.Call.TheVariants as group
use Rattle.sentry_calls.specs.declared.call.hubs.HubCall.TheVariants.{PushScope, PopScope, StartSession, EndSessionWithStatus}
use Rattle.sentry_calls.specs.declared.call.Reply.{Reply}
use Rattle.sentry_calls.specs.Runs.{Run}
use Rattle.sentry_laws.specs.PartsOfRuns.{FromEachCall}

-- what an accepted call is to the top layer of a hub
pub data TopChange : Type 0 where
  -- another layer stands on it
  covered : TopChange
  popped : TopChange
  -- a session may start on it
  started : TopChange
  -- its session is ended
  ended : TopChange
  -- nothing of these
  untouched : TopChange

abbrev pub top_change : {P C : Type 0} → ℕ → Call P C → TopChange
top_change number (group.Hub (PushScope hub)) = if number == hub.number then covered else untouched
top_change number (group.Hub (PopScope hub depth now)) = if number == hub.number then popped else untouched
top_change number (group.Hub (StartSession hub fresh)) = if number == hub.number then started else untouched
top_change number (group.Hub (EndSessionWithStatus hub status now)) =
    if number == hub.number then ended else untouched
top_change number call = untouched

-- what is said of a layer of a hub where so many others stand on it, and such a change comes: an end of its session is
-- silent; it goes on until the layer is popped, or a session starts on it
abbrev pub UntilStarted : TopChange → ℕ → Type 0 → (ℕ → Type 0) → Type 0
UntilStarted covered above silent rest = rest (suc above)
UntilStarted popped zero silent rest = Unit {0}
UntilStarted popped (suc above) silent rest = rest above
UntilStarted started zero silent rest = Unit {0}
UntilStarted started (suc above) silent rest = rest (suc above)
UntilStarted ended zero silent rest = silent × rest zero
UntilStarted ended (suc above) silent rest = rest (suc above)
UntilStarted untouched above silent rest = rest above

module _ {P C : Type 0} (gives : P → Partial) (meanings : C → Meanings) where
  -- each end of the session of a hub's layer on which so many others stand sends nothing and changes nothing, as long
  -- as no session starts on this layer
  abbrev pub EndsAreSilent : ℕ → ℕ → (world : World P C) (calls : List (Call P C))
      (answers : List (Result (Out (Reply P C)) Refusal)) (last : World P C)
      → Run gives meanings world calls answers last → Type 0
  EndsAreSilent number above world (call ∷ calls) (Ok out ∷ answers) last run =
      UntilStarted (top_change number call) above ((out.sent ≡ []) × (run.0 ≡ world))
      (λ more. EndsAreSilent number more run.0 calls answers last run.2)
  EndsAreSilent number above world (call ∷ calls) (Err refusal ∷ answers) last run =
      EndsAreSilent number above run.0 calls answers last run.2
  EndsAreSilent number above world [] answers last run = Unit {0}
  EndsAreSilent number above world (call ∷ calls) [] last run = Unit {0}

  -- a run that begins with an end of the session of a hub's top layer, whether or not it names one: each further end on
  -- that layer is silent, until a session starts on it
  abbrev pub SecondEndIsSilent : (world : World P C) (calls : List (Call P C))
      (answers : List (Result (Out (Reply P C)) Refusal)) (last : World P C)
      → Run gives meanings world calls answers last → Type 0
  SecondEndIsSilent world (call ∷ calls) (Ok out ∷ answers) last run =
      (hub : HubKey) (status : SessionStatus) (now : ℕ) → call ≡ group.Hub (EndSessionWithStatus hub status now)
      → EndsAreSilent hub.number zero run.0 calls answers last run.2
  SecondEndIsSilent world (call ∷ calls) (Err refusal ∷ answers) last run = Unit {0}
  SecondEndIsSilent world [] answers last run = Unit {0}
  SecondEndIsSilent world (call ∷ calls) [] last run = Unit {0}

  -- it is so of each end in a run
  abbrev pub SecondEndsAreSilent : (world : World P C) (calls : List (Call P C))
      (answers : List (Result (Out (Reply P C)) Refusal)) (last : World P C)
      → Run gives meanings world calls answers last → Type 0
  SecondEndsAreSilent world calls answers last run =
      FromEachCall gives meanings SecondEndIsSilent world calls answers last run

  -- and of each run from where another one ended
  abbrev pub EndsOnce : Type 0
  EndsOnce =
      (tag start : ℕ) (earlier calls : List (Call P C)) (before answers : List (Result (Out (Reply P C)) Refusal))
      (first last : World P C) → Run gives meanings (starting_world tag start) earlier before first
      → (run : Run gives meanings first calls answers last) → SecondEndsAreSilent first calls answers last run
