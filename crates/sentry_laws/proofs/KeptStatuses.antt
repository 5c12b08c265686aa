-- Sessions that stay held go on, and each update is of a session, whatever ids the callers pass.
use Rattle.std.proofs.Common.{◌≡◌, ◌≢◌, ◌<◌, ◌≤◌, refl, ap, ◌∙◌, sym, subst, ℕ, List, [], ◌∷◌, ◌++◌, arith, ◌⊎◌, inl, inr}
use Rattle.std.specs.Prelude.{Option, Some, Result, Ok, Err, unwrap_or}
use Rattle.std.specs.List.{AllByRecursion}
use Rattle.std.specs.Option.{option_map}
use Rattle.sentry_plain.specs.Tables.{value_at}
use Rattle.sentry_base.specs.Callbacks.{Partial}
use Rattle.sentry_base.specs.declared.protocol.envelope.Envelope.{Envelope}
use Rattle.sentry_base.specs.declared.protocol.keys.ClientKey.{ClientKey}
use Rattle.sentry_base.specs.declared.protocol.refusal.Refusal.{Refusal}
use Rattle.sentry_base.specs.declared.protocol.session.SessionStatus.TheVariants as session_status
use Rattle.sentry_base.specs.declared.protocol.session.SessionUpdate.{SessionUpdate}
use Rattle.sentry_options.specs.Meanings.{Meanings}
use Rattle.sentry_sessions.specs.declared.session.record.SessionStart.{SessionStart}
use Rattle.sentry_state.specs.declared.state.Out.{Out}
use Rattle.sentry_state.specs.Worlds.{World, ClientHistory, SessionHistory, starting_world}
use Rattle.sentry_calls.specs.declared.call.Call.{Call}
use Rattle.sentry_calls.specs.declared.call.Call.TheVariants as group
use Rattle.sentry_calls.specs.declared.call.clients.ClientCall.{ClientCall}
use Rattle.sentry_calls.specs.declared.call.clients.ClientCall.TheVariants.{AddClient, CloneClient, TakeReport}
use Rattle.sentry_calls.specs.declared.call.hubs.HubCall.{HubCall}
use Rattle.sentry_calls.specs.declared.call.hubs.HubCall.TheVariants.{NewHub, NewHubFromTop, StartSession}
use Rattle.sentry_calls.specs.declared.call.Reply.{Reply}
use Rattle.sentry_calls.specs.declared.call.Reply.TheVariants as reply
use Rattle.sentry_calls.specs.Runs.{StepsTo, Run}
use Rattle.sentry_laws.specs.SentItems.{handed_in}
use Rattle.sentry_laws.specs.Statuses.{status_of, GoesOn, Among, SessionsGoOn, IsOfSession, HasOrigin, UpdatesHaveOrigin, SessionsKeepStatus}
use Rattle.sentry_laws.specs.Updates.{updates_sent, all_queued, queued_at, started_id}
use Rattle.sentry_laws.proofs.Effects.{Effect, session_begun, effects, client_effects, hub_effects}
use Rattle.sentry_laws.proofs.Changes.{Changes, nothing, one, both, IsOfHeld}
use Rattle.sentry_laws.proofs.Found.{found_below}
use Rattle.sentry_laws.proofs.Keeping.{trail_of}
use Rattle.sentry_laws.proofs.Numbered.{IsNumbered, numbered_changes, none_numbered}
use Rattle.sentry_laws.proofs.ToldUpdates.{among_append}
use Rattle.sentry_laws.proofs.Trails.{own_effects}
use Rattle.sentry_laws.proofs.Updates.{IsQueued, HasBegun, IsFrom, went_on, is_new, Step, no_earlier, same_from, none_told, step_of, sent-joined, queued_in}

goes_further : (before middle after : SessionHistory) → GoesOn before middle → GoesOn middle after
    → GoesOn before after
goes_further before middle after g h = (
  h.0 ∙ g.0,
  λ ended. h.1 (subst (λ status. status ≢ session_status.Ok) (sym (g.1 ended)) ended) ∙ g.1 ended,
)

module _ {P C : Type 0} where
  -- ---- starts among effects

  begun_first : (first second : List (Effect P C)) (id : List ℕ) → HasBegun first id → HasBegun (first ++ second) id
  begun_first [] second id h = absurd h
  begun_first (session_begun number other ∷ rest) second id (inl e) = inl e
  begun_first (session_begun number other ∷ rest) second id (inr h) = inr (begun_first rest second id h)
  begun_first (_ ∷ rest) second id h = begun_first rest second id h

  begun_second : (first second : List (Effect P C)) (id : List ℕ) → HasBegun second id → HasBegun (first ++ second) id
  begun_second [] second id h = h
  begun_second (session_begun number other ∷ rest) second id h = inr (begun_second rest second id h)
  begun_second (_ ∷ rest) second id h = begun_second rest second id h

  -- ---- changes one after another

  abbrev Origin : World P C → List (Effect P C) → SessionUpdate → Type 0
  Origin old some u = IsQueued old u ⊎ (IsOfSession old u ⊎ HasBegun some u.session_id)

  -- what some changes do to sessions, and what updates they tell
  record Steps (old new : World P C) (some : List (Effect P C)) (sent : List SessionUpdate) : Type 0 where
    later : old.next.session ≤ new.next.session
    from : (n : ℕ) (s : SessionHistory) → value_at new.sessions n ≡ Some s → IsFrom old some n s
    queued : (u : SessionUpdate) → IsQueued new u → Origin old some u
    told : (u : SessionUpdate) → Among u sent → Origin old some u

  of_held : (world : World P C) (u : SessionUpdate) → IsOfHeld world u → IsOfSession world u
  of_held world u h = (h.0, h.1, h.2, sym h.3, λ ended. sym h.4)

  first_step : {old new : World P C} {some : List (Effect P C)} {sent : List SessionUpdate} → Step old new some sent
      → Steps old new some sent
  first_step {old} {some = some} step = record {
    later = step.later;
    from = step.from;
    queued = λ u queued. by_queue u (step.queued u queued);
    told = λ u among. by_place u (step.told u among);
  }
    where
      by_queue : (u : SessionUpdate) → IsQueued old u ⊎ (IsOfHeld old u × (u.status ≢ session_status.Ok))
          → Origin old some u
      by_queue u (inl queued) = inl queued
      by_queue u (inr h) = inr (inl (of_held old u h.0))

      by_place : (u : SessionUpdate) → IsQueued old u ⊎ IsOfHeld old u → Origin old some u
      by_place u (inl queued) = inl queued
      by_place u (inr h) = inr (inl (of_held old u h))

  module _ {old middle new : World P C} {first second : List (Effect P C)} {sent more : List SessionUpdate}
      (t : Steps old middle first sent) (r : Steps middle new second more) where
    widened : (u : SessionUpdate) → Origin old first u → Origin old (first ++ second) u
    widened u (inl queued) = inl queued
    widened u (inr (inl h)) = inr (inl h)
    widened u (inr (inr begun)) = inr (inr (begun_first first second u.session_id begun))

    of_earlier : (u : SessionUpdate) (n : ℕ) (s : SessionHistory) → u.session_id ≡ s.start.session_id
        → (status_of s ≢ session_status.Ok → u.status ≡ status_of s) → IsFrom old first n s
        → Origin old (first ++ second) u
    of_earlier u n s same status (went_on before at goes) =
        inr (inl (
          n,
          before,
          at,
          same ∙ ap (λ (x : SessionStart). x.session_id) goes.0,
          λ ended.
              status (subst (λ status. status ≢ session_status.Ok) (sym (goes.1 ended)) ended) ∙ goes.1 ended,
        ))
    of_earlier u n s same status (is_new low begun) =
        inr (inr (begun_first first second u.session_id (subst (HasBegun first) (sym same) begun)))

    traced : (u : SessionUpdate) → Origin middle second u → Origin old (first ++ second) u
    traced u (inl queued) = widened u (t.queued u queued)
    traced u (inr (inl h)) = of_earlier u h.0 h.1 h.3 h.4 (t.from h.0 h.1 h.2)
    traced u (inr (inr begun)) = inr (inr (begun_second first second u.session_id begun))

    joined : Steps old new (first ++ second) (sent ++ more)
    joined = record {
      later = omega (arith, t.later, r.later);
      from = λ n s found. by_later n s (r.from n s found);
      queued = λ u queued. traced u (r.queued u queued);
      told = λ u among. by_place u (among_append u sent more among);
    }
      where
        by_first : (n : ℕ) (s m : SessionHistory) → GoesOn m s → IsFrom old first n m → IsFrom old (first ++ second) n s
        by_first n s m goes (went_on before at went) =
            went_on before at (goes_further before m s went goes)
        by_first n s m goes (is_new low begun) =
            is_new low (begun_first first second s.start.session_id
            (subst (HasBegun first) (sym (ap (λ (x : SessionStart). x.session_id) goes.0)) begun))

        by_later : (n : ℕ) (s : SessionHistory) → IsFrom middle second n s → IsFrom old (first ++ second) n s
        by_later n s (went_on m at goes) = by_first n s m goes (t.from n m at)
        by_later n s (is_new low begun) =
            is_new (omega (arith, t.later, low)) (begun_second first second s.start.session_id begun)

        by_place : (u : SessionUpdate) → Among u sent ⊎ Among u more → Origin old (first ++ second) u
        by_place u (inl h) = widened u (t.told u h)
        by_place u (inr h) = traced u (r.told u h)

module _ {P C : Type 0} (meanings : C → Meanings) where
  steps_of : (f : Option Envelope) {old new : World P C} {some : List (Effect P C)} {sent : List
      (ClientKey × Envelope)} → Changes meanings f old some sent new → IsNumbered old
      → Steps old new some (updates_sent f sent)
  steps_of f (nothing world) n = record {
    later = no_earlier world.next.session;
    from = λ k s found. same_from world [] k s found;
    queued = λ u queued. inl queued;
    told = λ u among. none_told f u among;
  }
  steps_of f (one c) n = first_step (step_of meanings f c n)
  steps_of f (both {old = old} {new = new} {first = first} {second = second} {sent = sent} {more = more} t r) n =
      subst (Steps old new (first ++ second)) (sym (sent-joined f sent more))
      (joined (steps_of f t n) (steps_of f r (numbered_changes meanings t n)))

  -- ---- calls

  own_begun : (some : List (Effect P C)) (id : List ℕ) → HasBegun some id → HasBegun (own_effects some) id
  own_begun [] id h = h
  own_begun (session_begun number other ∷ rest) id (inl e) = inl e
  own_begun (session_begun number other ∷ rest) id (inr h) = inr (own_begun rest id h)
  own_begun (_ ∷ rest) id h = own_begun rest id h

  client_begun : {A : Type 0} (call : ClientCall P C) (made : Reply P C) (id : List ℕ)
      → HasBegun (client_effects meanings call made) id → A
  client_begun (AddClient options transport label now) (reply.Client key) id h = absurd h
  client_begun (AddClient options transport label now) _ id h = absurd h
  client_begun (CloneClient client now) (reply.Client key) id h = absurd h
  client_begun (CloneClient client now) _ id h = absurd h
  client_begun (TakeReport label) (reply.Report report) id h = absurd h
  client_begun (TakeReport label) _ id h = absurd h
  client_begun call made id h = absurd h

  hub_begun : (call : HubCall P) (made : Reply P C) (id : List ℕ) → HasBegun (hub_effects meanings call made) id
      → started_id {P = P} {C = C} (group.Hub call) ≡ Some id
  hub_begun (StartSession hub fresh) made id (inl e) = ap Some e
  hub_begun (StartSession hub fresh) made id (inr h) = absurd h
  hub_begun (NewHub client scope) (reply.Hub key) id h = absurd h
  hub_begun (NewHub client scope) _ id h = absurd h
  hub_begun (NewHubFromTop hub) (reply.Hub key) id h = absurd h
  hub_begun (NewHubFromTop hub) _ id h = absurd h
  hub_begun call made id h = absurd h

  call_begun : (call : Call P C) (made : Reply P C) (id : List ℕ) → HasBegun (effects meanings call made) id
      → started_id call ≡ Some id
  call_begun (group.Client call) made id h = client_begun call made id h
  call_begun (group.Hub call) made id h = hub_begun call made id h
  call_begun (group.Span call) made id h = absurd h

all_of : {X : Type 0} (Q : X → Type 0) (xs : List X) → ((x : X) → Among x xs → Q x) → AllByRecursion Q xs
all_of Q [] h = tt
all_of Q (first ∷ rest) h = (h first (inl refl), all_of Q rest (λ x among. h x (inr among)))

same_session : (o : Option SessionHistory) (x y : SessionHistory) → o ≡ Some x → o ≡ Some y → x ≡ y
same_session o x y p q = cc

module _ {P C : Type 0} (gives : P → Partial) (meanings : C → Meanings) where
  module _ (call : Call P C) (out : Out (Reply P C)) (world next : World P C)
      (may : StepsTo gives meanings world call (Ok out) next) (n : IsNumbered world) where
    steps : Steps world next (trail_of gives meanings call out world next may).effects
        (updates_sent (handed_in call) out.sent)
    steps = steps_of meanings (handed_in call) (trail_of gives meanings call out world next may).changes n

    go_on : SessionsGoOn world next
    go_on number before after found at = by_origin (steps.from number after at)
      where
        by_origin : IsFrom world (trail_of gives meanings call out world next may).effects number after
            → GoesOn before after
        by_origin (went_on was here goes) =
            subst (λ b. GoesOn b after) (same_session (value_at world.sessions number) was before here found) goes
        by_origin (is_new low begun) =
            let high : number < world.next.session =
            found_below 0 world.next.session number world.sessions before n.sessions found in
            absurd (omega (arith, low, high))

    has_origin : (u : SessionUpdate) → Origin world (trail_of gives meanings call out world next may).effects u
        → HasOrigin call world u
    has_origin u (inl queued) =
        inl (
          queued.0,
          subst (Among u) (sym (ap (λ (o : Option (ClientHistory C)). unwrap_or
              (option_map (λ (client : ClientHistory C). all_queued client.queues.sessions) o) []) queued.2)) queued.3,
        )
    has_origin u (inr (inl h)) = inr (inl h)
    has_origin u (inr (inr begun)) =
        let trail = trail_of gives meanings call out world next may in
        inr (inr (call_begun meanings call out.reply u.session_id
        (subst (λ some. HasBegun some u.session_id) trail.same
        (own_begun meanings trail.effects u.session_id begun))))

    have_origin : UpdatesHaveOrigin call world out.sent next
    have_origin = (
      all_of (HasOrigin call world) (updates_sent (handed_in call) out.sent)
          (λ u among. has_origin u (steps.told u among)),
      λ number. all_of (HasOrigin call world) (queued_at next number)
          (λ u among. has_origin u (steps.queued u (queued_in next number u among))),
    )

  statuses_run : (calls : List (Call P C)) (answers : List (Result (Out (Reply P C)) Refusal)) (world last : World P C)
      (run : Run gives meanings world calls answers last) → IsNumbered world
      → SessionsKeepStatus gives meanings world calls answers last run
  statuses_run [] answers world last run n = tt
  statuses_run (call ∷ calls) [] world last run n = tt
  statuses_run (call ∷ calls) (Err refusal ∷ answers) world last run n =
      statuses_run calls answers run.0 last run.2 (subst IsNumbered (sym run.1.1) n)
  statuses_run (call ∷ calls) (Ok out ∷ answers) world last run n = (
    go_on call out world run.0 run.1 n,
    have_origin call out world run.0 run.1 n,
    statuses_run calls answers run.0 last run.2
        (numbered_changes meanings (trail_of gives meanings call out world run.0 run.1).changes n),
  )

  pub statuses_kept : (tag start : ℕ) (calls : List (Call P C)) (answers : List (Result (Out (Reply P C)) Refusal))
      (last : World P C) (run : Run gives meanings (starting_world tag start) calls answers last)
      → SessionsKeepStatus gives meanings (starting_world tag start) calls answers last run
  statuses_kept tag start calls answers last run =
      statuses_run calls answers (starting_world tag start) last run (none_numbered tag start)
