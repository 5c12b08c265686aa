-- How the calls are put together out of changes.
use Rattle.std.proofs.Common.{◌≡◌, refl, ap, ◌∙◌, sym, subst, ℕ, List, [], ◌∷◌, ◌++◌, Bool, true, false, cond}
use Rattle.std.proofs.lemmas.List.{append-nil}
use Rattle.std.specs.Prelude.{Option, Some, None, Result, Ok, Err, ◌==◌, ◌||◌, if◌then◌else◌}
use Rattle.std.specs.List.{list_any}
use Rattle.std.specs.Option.{option_map}
use Rattle.sentry_plain.specs.Tables.{value_at}
use Rattle.sentry_base.specs.declared.protocol.envelope.Envelope.{Envelope}
use Rattle.sentry_base.specs.declared.protocol.keys.ClientKey.{ClientKey}
use Rattle.sentry_base.specs.declared.protocol.keys.SessionKey.{SessionKey}
use Rattle.sentry_base.specs.declared.protocol.refusal.Refusal.{Refusal}
use Rattle.sentry_options.specs.Meanings.{Meanings}
use Rattle.sentry_state.specs.declared.state.ClientState.{ClientState}
use Rattle.sentry_state.specs.declared.state.Out.{Out}
use Rattle.sentry_state.specs.Worlds.{World, ClientHistory, stored_client}
use Rattle.sentry_state.specs.Outcomes.{Outcome, require_some, let_some, require, reply_with, value_under}
use Rattle.sentry_sending.specs.Sending.{Sending, send_nothing, send_some, reply_sending}
use Rattle.sentry_calls.specs.Replies.{map_reply, map_answer}
use Rattle.sentry_laws.specs.OwnCalls as own
use Rattle.sentry_laws.proofs.Effects.{Effect, seen, session_named}
use Rattle.sentry_laws.proofs.Changes.{Change, Changes, nothing, one, both}
use Rattle.sentry_laws.specs.Reachable.{SessionsAreNamed}
use Rattle.sentry_laws.proofs.Numbered.{IsNumbered}
use Rattle.sentry_laws.proofs.Naming.{is_unnaming, is_naming, is_begun, unnamed, names_kept}

under-at : {X : Type 0} (b : Bool) (o : Option X) (x : X) → cond b o None ≡ Some x → o ≡ Some x
under-at true o x h = h
under-at false o x h = absurd cc

pub neither : {A : Type 0} (b : Bool) → b ≡ false → b ≡ true → A
neither true e f = absurd cc
neither false e f = absurd cc

-- what is found under a key is found under its number
pub found_under : {X : Type 0} (tag : ℕ) (entries : List (ℕ × X)) (key_tag number : ℕ) (x : X)
    → value_under tag entries key_tag number ≡ Some x → value_at entries number ≡ Some x
found_under tag entries key_tag number x h = under-at (key_tag == tag) (value_at entries number) x h

module _ {P C : Type 0} where
  -- the effect is one that calls tell of
  abbrev pub is_own : Effect P C → Bool
  is_own (session_named number session) = false
  is_own _ = true

  -- the effects, names of sessions aside
  abbrev pub own_effects : List (Effect P C) → List (Effect P C)
  own_effects [] = []
  own_effects (effect ∷ rest) = cond (is_own effect) (effect ∷ own_effects rest) (own_effects rest)

  -- a test that no name of a session passes
  pub own_any : (test : Effect P C → Bool) → ((number : ℕ) (session : Option SessionKey)
      → test (session_named number session) ≡ false)
      → (some : List (Effect P C)) → list_any test (own_effects some) ≡ list_any test some
  own_any test none [] = refl
  own_any test none (session_named number session ∷ rest) =
      own_any test none rest ∙ ap (λ b. b || list_any test rest) (sym (none number session))
  own_any test none (effect ∷ rest) = ap (λ b. test effect || b) (own_any test none rest)

  -- what the clause of `IsIsolated` sees of effects
  abbrev pub seen_in : List (Effect P C) → List (own.Effect P C)
  seen_in [] = []
  seen_in (seen effect ∷ rest) = effect ∷ seen_in rest
  seen_in (_ ∷ rest) = seen_in rest

  pub own_seen : (some : List (Effect P C)) → seen_in (own_effects some) ≡ seen_in some
  own_seen [] = refl
  own_seen (seen effect ∷ rest) = ap (λ l. effect ∷ l) (own_seen rest)
  own_seen (_ ∷ rest) = own_seen rest

module _ {P C : Type 0} (meanings : C → Meanings) (given : Option Envelope) where
  -- changes whose effects, names of sessions aside, are these, and after which each session that is held is named as
  -- before; a layer names another session only where one begins on its hub
  pub record Trail (world : World P C) (own : List (Effect P C)) (sent : List (ClientKey × Envelope))
      (after : World P C) : Type 0 where
    pub effects : List (Effect P C)
    pub changes : Changes meanings given world effects sent after
    pub same : own_effects effects ≡ own
    pub names : IsNumbered world → SessionsAreNamed world → SessionsAreNamed after
    pub naming : (n : ℕ) → list_any (is_naming n) effects ≡ true → list_any (is_begun n) effects ≡ true

  abbrev pub TellsBy : {T : Type 0} → World P C → (T → List (Effect P C)) → Result (Out T) Refusal → World P C → Type 0
  TellsBy world own (Ok out) after = Trail world (own out.reply) out.sent after
  TellsBy world own (Err refusal) after = after ≡ world

  -- the outcome is that of such changes, or a refusal that changes nothing
  pub record Told {T : Type 0} (world : World P C) (own : T → List (Effect P C))
      (outcome : Outcome P C T) : Type 0 where
    pub tells : TellsBy world own outcome.answer outcome.after

  pub record Sends (world : World P C) (effects : List (Effect P C)) (sending : Sending P C) : Type 0 where
    pub changes : Changes meanings given world effects sending.sent sending.after

  -- ---- changes after changes

  pub quiet_last : {old middle new : World P C} {first second : List (Effect P C)} {sent : List (ClientKey × Envelope)}
      → Changes meanings given old first sent middle → Change meanings given middle second [] new
      → Changes meanings given old (first ++ second) sent new
  quiet_last {old} {middle} {new} {first} {second} {sent} t c =
      subst (λ s. Changes meanings given old (first ++ second) s new) (append-nil sent) (both t (one c))

  pub quiet_more : {old middle new : World P C} {sent : List (ClientKey × Envelope)}
      → Changes meanings given old [] sent middle → Changes meanings given middle [] [] new
      → Changes meanings given old [] sent new
  quiet_more {old} {middle} {new} {sent} t c =
      subst (λ s. Changes meanings given old [] s new) (append-nil sent) (both t c)

  -- ---- outcomes

  module _ {T : Type 0} {world : World P C} {own : T → List (Effect P C)} where
    pub told_named : (reply : T) {sent : List (ClientKey × Envelope)} {after : World P C} {effects : List (Effect P C)}
        → Changes meanings given world effects sent after → own_effects effects ≡ own reply
        → (IsNumbered world → SessionsAreNamed world → SessionsAreNamed after)
        → ((n : ℕ) → list_any (is_naming n) effects ≡ true → list_any (is_begun n) effects ≡ true)
        → Told world own (reply_with reply sent after)
    told_named reply {sent} {after} {effects} t same names naming =
        record { tells = record { effects = effects; changes = t; same = same; names = names; naming = naming } }

    -- by these changes no session starts, and no layer gives one up
    pub told_trail : (reply : T) {sent : List (ClientKey × Envelope)} {after : World P C} {effects : List (Effect P C)}
        → Changes meanings given world effects sent after → own_effects effects ≡ own reply
        → list_any is_unnaming effects ≡ false
        → Told world own (reply_with reply sent after)
    told_trail reply {effects = effects} t same calm =
        told_named reply t same (λ n h. names_kept meanings t calm n h)
        (λ n h. neither (list_any (is_naming n) effects) (unnamed n effects calm) h)

    pub told_nothing : (reply : T) → own reply ≡ [] → Told world own (reply_with reply [] world)
    told_nothing reply same = told_trail reply (nothing world) (sym same) refl

    pub told_some : {X : Type 0} (refusal : Refusal) (o : Option X) {go : X → Outcome P C T}
        → ((x : X) → o ≡ Some x → Told world own (go x)) → Told world own (require_some refusal world o go)
    told_some refusal None h = record { tells = refl }
    told_some refusal (Some x) h = h x refl

    -- a client as the engine keeps it
    pub told_client : (refusal : Refusal) (o : Option (ClientHistory C)) (go : ClientState C → Outcome P C T)
        → ((client : ClientHistory C) → o ≡ Some client → Told world own (go (stored_client client)))
        → Told world own (require_some refusal world (option_map stored_client o) go)
    told_client refusal None go h = record { tells = refl }
    told_client refusal (Some client) go h = h client refl

    pub told_let : {X : Type 0} (o : Option X) {otherwise : Outcome P C T} {go : X → Outcome P C T}
        → (o ≡ None → Told world own otherwise) → ((x : X) → o ≡ Some x → Told world own (go x))
        → Told world own (let_some o otherwise go)
    told_let None k h = k refl
    told_let (Some x) k h = h x refl

    pub told_let_client : (o : Option (ClientHistory C)) (otherwise : Outcome P C T) (go : ClientState C → Outcome P C T)
        → (o ≡ None → Told world own otherwise)
        → ((client : ClientHistory C) → o ≡ Some client → Told world own (go (stored_client client)))
        → Told world own (let_some (option_map stored_client o) otherwise go)
    told_let_client None otherwise go k h = k refl
    told_let_client (Some client) otherwise go k h = h client refl

    pub told_require : (refusal : Refusal) (b : Bool) {go : Outcome P C T} → (b ≡ true → Told world own go)
        → Told world own (require refusal world b go)
    told_require refusal true h = h refl
    told_require refusal false h = record { tells = refl }

    pub told_if : (b : Bool) {yes no : Outcome P C T} → (b ≡ true → Told world own yes)
        → (b ≡ false → Told world own no) → Told world own (if b then yes else no)
    told_if true h k = h refl
    told_if false h k = k refl

    pub told_sending : (reply : T) {sending : Sending P C} → Sends world [] sending → own reply ≡ []
        → Told world own (reply_sending reply sending)
    told_sending reply s same = told_trail reply s.changes (sym same) refl

  mapped-by : {T U : Type 0} (world : World P C) (own : U → List (Effect P C)) (f : T → U)
      (answer : Result (Out T) Refusal) (after : World P C)
      → TellsBy world (λ x. own (f x)) answer after → TellsBy world own (map_answer f answer) after
  mapped-by world own f (Ok out) after h = h
  mapped-by world own f (Err refusal) after h = h

  pub told_mapped : {T U : Type 0} {world : World P C} (own : U → List (Effect P C)) (f : T → U)
      (outcome : Outcome P C T)
      → Told world (λ x. own (f x)) outcome → Told world own (map_reply f outcome)
  told_mapped {T} {U} {world} own f outcome h =
      record { tells = mapped-by world own f outcome.answer outcome.after h.tells }

  -- ---- sending

  pub sends_nothing : {world : World P C} → Sends world [] (send_nothing world)
  sends_nothing {world} = record { changes = nothing world }

  pub sends_some : {world : World P C} {X : Type 0} (o : Option X) {go : X → Sending P C}
      → ((x : X) → o ≡ Some x → Sends world [] (go x)) → Sends world [] (send_some world o go)
  sends_some None h = sends_nothing
  sends_some (Some x) h = h x refl

  pub sends_unless : {world : World P C} (b : Bool) {go : Sending P C} → (b ≡ false → Sends world [] go)
      → Sends world [] (if b then send_nothing world else go)
  sends_unless true h = sends_nothing
  sends_unless false h = h refl
