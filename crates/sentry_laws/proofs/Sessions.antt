-- Sessions that have ended.
use Rattle.std.proofs.Common.{◌≡◌, ◌<◌, ◌≤◌, refl, ap, ◌∙◌, sym, subst, ℕ, ◌+◌, List, [], ◌∷◌, ◌++◌, Bool, true, false, arith, ◌⊎◌, inl, inr}
use Rattle.std.specs.Prelude.{Option, Some, None, Result, Ok, Err, if◌then◌else◌, ◌==◌, length}
use Rattle.std.specs.Option.{option_and_then}
use Rattle.sentry_plain.specs.Tables.{value_at, put, replace_at}
use Rattle.sentry_plain.proofs.NumberLemmas.{same_number}
use Rattle.sentry_base.specs.Callbacks.{Partial}
use Rattle.sentry_base.specs.declared.protocol.breadcrumb.Breadcrumb.{Breadcrumb}
use Rattle.sentry_base.specs.declared.protocol.envelope.Envelope.{Envelope}
use Rattle.sentry_base.specs.declared.protocol.keys.ClientKey.{ClientKey}
use Rattle.sentry_base.specs.declared.protocol.keys.HubKey.{HubKey}
use Rattle.sentry_base.specs.declared.protocol.keys.Label.{Label}
use Rattle.sentry_base.specs.declared.protocol.keys.SessionKey.{SessionKey}
use Rattle.sentry_base.specs.declared.protocol.refusal.Refusal.{Refusal}
use Rattle.sentry_base.specs.declared.protocol.session.SessionStatus.{SessionStatus}
use Rattle.sentry_options.specs.Meanings.{Meanings}
use Rattle.sentry_options.specs.declared.clientoptions.ClientOptions.{ClientOptions}
use Rattle.sentry_scope.specs.declared.scope.stack.Stack.{Stack}
use Rattle.sentry_scope.specs.declared.scope.stack.StackLayer.{StackLayer}
use Rattle.sentry_scope.specs.Stacks.{pop, stack_of, stack_of_any}
use Rattle.sentry_sessions.specs.Sessions.{SessionEntry}
use Rattle.sentry_hub_table.specs.declared.hub.HubState.{HubState}
use Rattle.sentry_state.specs.declared.state.Out.{Out}
use Rattle.sentry_state.specs.Worlds.{World, SessionHistory, starting_world}
use Rattle.sentry_state.specs.Outcomes.{hub_at, session_at}
use Rattle.sentry_state.specs.Changes.{with_client_history}
use Rattle.sentry_sending.specs.Sending.{after_sending, send, send_nothing, reply_sending, end_session}
use Rattle.sentry_calls.specs.declared.call.Call.{Call}
use Rattle.sentry_calls.specs.declared.call.Call.TheVariants as group
use Rattle.sentry_calls.specs.declared.call.hubs.HubCall.TheVariants.{EndSessionWithStatus}
use Rattle.sentry_calls.specs.declared.call.Reply.{Reply}
use Rattle.sentry_calls.specs.declared.call.Reply.TheVariants as reply
use Rattle.sentry_calls.specs.Sessions as session_calls
use Rattle.sentry_calls.specs.Runs.{StepsTo, Run}
use Rattle.sentry_calls.specs.Steps.{step, hub_step}
use Rattle.sentry_calls.specs.Replies.{map_answer}
use Rattle.sentry_laws.specs.OwnCalls.{LayerChange, scope_edited, breadcrumbs_came, client_bound, layer_pushed, layer_popped, change_layers, add_under}
use Rattle.sentry_laws.proofs.Effects.{Effect, effects}
use Rattle.sentry_laws.proofs.Changes.{Change, Changes, nothing, one, both, held_options, IsGiven, after_arrival, envelopes_on_arrival, makes_hub, makes_hub_from, changes_hub, sets_session, notes_event_id, releases_hub, arrives, accepts, starts_session, changes_session, ends_session}
use Rattle.sentry_laws.specs.SentItems.{handed_in}
use Rattle.sentry_laws.proofs.Tables.{AreBelow, below_put, below_replaced, below_without, others_put}
use Rattle.sentry_laws.proofs.Increasing.{IsIncreasing, increasing_put, increasing_replaced, increasing_without, without_if}
use Rattle.sentry_laws.proofs.Found.{found_put, found_replaced, found_without, all_by, all_without}
use Rattle.sentry_laws.proofs.Trails.{Trail, TellsBy}
use Rattle.sentry_laws.proofs.Calls.{told_step}

-- ---- sessions that layers name

given_more : (tag next : ℕ) (name : Option SessionKey) → IsGiven tag next name → IsGiven tag (next + 1) name
given_more tag next None g = tt
given_more tag next (Some key) g = (g.0, omega (arith, g.1))

module _ {P : Type 0} where
  abbrev AllGiven : ℕ → ℕ → List (StackLayer P) → Type 0
  AllGiven tag next [] = Unit {0}
  AllGiven tag next (layer ∷ rest) = IsGiven tag next layer.session × AllGiven tag next rest

  abbrev AreGiven : ℕ → ℕ → Stack P → Type 0
  AreGiven tag next stack = AllGiven tag next (stack.top ∷ stack.below)

  all_more : (tag next : ℕ) (layers : List (StackLayer P)) → AllGiven tag next layers → AllGiven tag (next + 1) layers
  all_more tag next [] g = tt
  all_more tag next (layer ∷ rest) g = (given_more tag next layer.session g.0, all_more tag next rest g.1)

  all_append : (tag next : ℕ) (xs : List (StackLayer P)) (x : StackLayer P) → AllGiven tag next xs
      → IsGiven tag next x.session → AllGiven tag next (xs ++ x ∷ [])
  all_append tag next [] x h k = (k, tt)
  all_append tag next (first ∷ rest) x h k = (h.0, all_append tag next rest x h.1 k)

  stack_of_given : (tag next : ℕ) (lowest : StackLayer P) (above : List (StackLayer P))
      → AllGiven tag next (lowest ∷ above) → AreGiven tag next (stack_of lowest above)
  stack_of_given tag next lowest [] h = h
  stack_of_given tag next lowest (layer ∷ above) h = let r =
      stack_of_given tag next layer above h.1 in (r.0, (h.0, r.1))

  any_given : (tag next : ℕ) (below : List (StackLayer P)) (stack : Stack P) → AllGiven tag next below
      → AreGiven tag next stack → AreGiven tag next (stack_of_any below stack)
  any_given tag next [] stack h k = k
  any_given tag next (lowest ∷ above) stack h k = stack_of_given tag next lowest above h

  pub pop_given : (tag next : ℕ) (stack : Stack P) → AreGiven tag next stack → AreGiven tag next (pop stack)
  unfolding pop
  pop_given tag next stack h = any_given tag next stack.below stack h.1 h

module _ {P C : Type 0} (meanings : C → Meanings) where
  add_given : (tag next : ℕ) (o : Option (ClientOptions C)) (breadcrumbs : List Breadcrumb) (b : Bool) (stack : Stack P)
      → AreGiven tag next stack → AreGiven tag next (if b then stack else add_under meanings o breadcrumbs stack)
  add_given tag next o breadcrumbs true stack h = h
  add_given tag next None breadcrumbs false stack h = h
  add_given tag next (Some options) breadcrumbs false stack h = h

  change_given : (world : World P C) (options : ClientKey → Option (ClientOptions C)) (change : LayerChange P)
      (stack : Stack P) → AreGiven world.tag world.next.session stack
      → AreGiven world.tag world.next.session (change_layers meanings options change stack)
  change_given world options (scope_edited edits) stack h = h
  change_given world options (breadcrumbs_came breadcrumbs) stack h =
      add_given world.tag world.next.session (option_and_then options stack.top.client) breadcrumbs
      (length breadcrumbs == 0) stack h
  change_given world options (client_bound client) stack h = h
  change_given world options layer_pushed stack h =
      (h.0, all_append world.tag world.next.session stack.below stack.top h.1 h.0)
  change_given world options layer_popped stack h = pop_given world.tag world.next.session stack h

-- ---- every world

module _ {P C : Type 0} where
  -- sessions stand under increasing numbers, and layers name sessions that were started
  pub record Counts (world : World P C) : Type 0 where
    pub sessions : IsIncreasing 0 world.sessions
    pub hubs : AreBelow 0 world.next.hub world.hubs
    pub given : (n : ℕ) (hub : HubState P) → value_at world.hubs n ≡ Some hub
        → AreGiven world.tag world.next.session hub.stack

  counts_sending : (label : Label) (sent : List (ClientKey × Envelope)) (world : World P C) → Counts world
      → Counts (after_sending label sent world)
  counts_sending label [] world c = c
  counts_sending label (first ∷ rest) world c = record { sessions = c.sessions; hubs = c.hubs; given = c.given }

  counts_replaced : (world : World P C) (number : ℕ) (old new : HubState P) → value_at world.hubs number ≡ Some old
      → AreGiven world.tag world.next.session new.stack → Counts world
      → Counts (record world { hubs = replace_at world.hubs number new })
  counts_replaced world number old new found g c = record {
    sessions = c.sessions;
    hubs = below_replaced 0 world.next.hub number new world.hubs c.hubs;
    given = λ k hub at. all_by (λ (x : HubState P). AreGiven world.tag world.next.session x.stack) (k == number) new hub
        (value_at world.hubs k) g (λ z zat. c.given k z zat) (sym (found_replaced world.hubs number k new old found)
        ∙ at);
  }

  counts_made : (world : World P C) (new : HubState P) → AreGiven world.tag world.next.session new.stack → Counts world
      → Counts (record world {
        next = record world.next { hub = world.next.hub + 1 };
        hubs =
            put world.hubs world.next.hub new;
      })
  counts_made world new g c = record {
    sessions = c.sessions;
    hubs = below_put world.next.hub new world.hubs c.hubs;
    given = λ k hub at. all_by (λ (x : HubState P). AreGiven world.tag world.next.session x.stack) (k == world.next.hub)
        new hub (value_at world.hubs k) g (λ z zat. c.given k z zat) (sym (found_put world.hubs world.next.hub k new)
        ∙ at);
  }

-- ---- one session

-- what stands under a number that was given out, where nothing may stand, and more entries may come
module _ (number low : ℕ) (Holds : Option SessionHistory → Type 0)
    (below : (number < low) ⊎ ((o : Option SessionHistory) → Holds o)) (none : Holds None)
    (more : (old new : SessionHistory) (later : List SessionEntry) → new ≡ record old { history = later ++ old.history }
    → Holds (Some old) → Holds (Some new)) where
  pub record Watched {P C : Type 0} (world : World P C) : Type 0 where
    pub counts : Counts world
    pub given : low ≤ world.next.session
    pub holds : Holds (value_at world.sessions number)

  changed_holds : (b : Bool) (n : ℕ) (sessions : List (ℕ × SessionHistory)) (old new : SessionHistory)
      (later : List SessionEntry) → value_at sessions n ≡ Some old → new ≡ record old { history = later ++ old.history }
      → (number == n) ≡ b → Holds (value_at sessions number) → Holds (if b then Some new else value_at sessions number)
  changed_holds true n sessions old new later found same e h =
      more old new later same (subst Holds (ap (value_at sessions) (same_number number n e) ∙ found) h)
  changed_holds false n sessions old new later found same e h = h

  ended_holds : (b : Bool) (o : Option SessionHistory) → Holds o → Holds (if b then None else o)
  ended_holds true o h = none
  ended_holds false o h = h

  started-by : (next : ℕ) (sessions : List (ℕ × SessionHistory)) (new : SessionHistory) → (number < low)
      ⊎ ((o : Option SessionHistory) → Holds o) → low ≤ next → Holds (value_at sessions number)
      → Holds (value_at (put sessions next new) number)
  started-by next sessions new (inl under) given h =
      subst Holds (sym (others_put sessions next number new (λ e. absurd (omega (arith, e, under, given))))) h
  started-by next sessions new (inr all) given h = all _

  module _ {P C : Type 0} (meanings : C → Meanings) where
    watched_sending : (label : Label) (sent : List (ClientKey × Envelope)) (world : World P C) → Watched world
        → Watched (after_sending label sent world)
    watched_sending label [] world w = w
    watched_sending label (first ∷ rest) world w =
        record {
          counts = record { sessions = w.counts.sessions; hubs = w.counts.hubs; given = w.counts.given };
          given =
              w.given;
          holds = w.holds;
        }

    watched_change : {f : Option Envelope} {old new : World P C} {some : List (Effect P C)} {sent : List
        (ClientKey × Envelope)} → Change meanings f old some sent new → Watched old → Watched new
    watched_change (makes_hub world client scope held active) w =
        record { counts = counts_made world _ (tt, tt) w.counts; given = w.given; holds = w.holds }
    watched_change (makes_hub_from world maker hub found) w =
        record {
          counts = counts_made world _ ((w.counts.given maker hub found).0, tt) w.counts;
          given =
              w.given;
          holds = w.holds;
        }
    watched_change (changes_hub world n old new change found fits allowed) w = record {
      counts = counts_replaced world n old new found (subst (AreGiven world.tag world.next.session) (sym fits)
          (change_given meanings world (held_options world) change old.stack (w.counts.given n old found)))
          w.counts;
      given = w.given;
      holds = w.holds;
    }
    watched_change (sets_session world n hub session found given) w = record {
      counts = counts_replaced world n hub _ found (given, (w.counts.given n hub found).1) w.counts;
      given = w.given;
      holds = w.holds;
    }
    watched_change (notes_event_id world n old new found same) w = record {
      counts = counts_replaced world n old new found (subst (AreGiven world.tag world.next.session) (sym same)
          (w.counts.given n old found)) w.counts;
      given = w.given;
      holds = w.holds;
    }
    watched_change (releases_hub world n hub found alone) w = record {
      counts = record {
        sessions = w.counts.sessions;
        hubs = below_without 0 world.next.hub n world.hubs w.counts.hubs;
        given = λ k hub at. all_without (λ (x : HubState P). AreGiven world.tag world.next.session x.stack) (k == n) hub
            (value_at world.hubs k) (λ z zat. w.counts.given k z zat)
            (sym (found_without 0 world.next.hub world.hubs n k w.counts.hubs) ∙ at);
      };
      given = w.given;
      holds = w.holds;
    }
    watched_change (arrives world key client arrival is_off found open_ came) w =
        watched_sending client.label (send key client (envelopes_on_arrival arrival client)
        (with_client_history world key (after_arrival arrival client))).sent
        (with_client_history world key (after_arrival arrival client))
        (record {
          counts = record { sessions = w.counts.sessions; hubs = w.counts.hubs; given = w.counts.given };
          given = w.given;
          holds = w.holds;
        })
    watched_change (accepts world key client arrival kind is_off found open_ came) w =
        watched_sending client.label (send key client (envelopes_on_arrival arrival client)
        (with_client_history world key (after_arrival arrival client))).sent
        (with_client_history world key (after_arrival arrival client))
        (record {
          counts = record { sessions = w.counts.sessions; hubs = w.counts.hubs; given = w.counts.given };
          given = w.given;
          holds = w.holds;
        })
    watched_change (starts_session world number start) w = record {
      counts = record {
        sessions = increasing_put 0 world.next.session (record { start = start; history = [] }) world.sessions
            (omega arith) w.counts.sessions;
        hubs = w.counts.hubs;
        given = λ k hub at. all_more world.tag world.next.session (hub.stack.top ∷ hub.stack.below)
            (w.counts.given k hub at);
      };
      given = omega (arith, w.given);
      holds = started-by world.next.session world.sessions (record { start = start; history = [] })
          below w.given w.holds;
    }
    watched_change (changes_session world n old new later found same) w = record {
      counts = record {
        sessions = increasing_replaced 0 n new world.sessions w.counts.sessions;
        hubs =
            w.counts.hubs;
        given = w.counts.given;
      };
      given = w.given;
      holds = subst Holds (sym (found_replaced world.sessions n number new old found))
          (changed_holds (number == n) n world.sessions old new later found same refl w.holds);
    }
    watched_change (ends_session world n) w = record {
      counts = record {
        sessions = increasing_without 0 n world.sessions w.counts.sessions;
        hubs =
            w.counts.hubs;
        given = w.counts.given;
      };
      given = w.given;
      holds = subst Holds (sym (without_if 0 n number world.sessions w.counts.sessions))
          (ended_holds (number == n) (value_at world.sessions number) w.holds);
    }
    watched_change _ w =
        record { counts = record { sessions = w.counts.sessions; hubs = w.counts.hubs; given = w.counts.given }; given = w.given; holds = w.holds }

    watched_changes : {f : Option Envelope} {old new : World P C} {some : List (Effect P C)} {sent : List
        (ClientKey × Envelope)} → Changes meanings f old some sent new → Watched old → Watched new
    watched_changes (nothing world) w = w
    watched_changes (one c) w = watched_change c w
    watched_changes (both t u) w = watched_changes u (watched_changes t w)

  module _ {P C : Type 0} (gives : P → Partial) (meanings : C → Meanings) where
    pub watched_next : (call : Call P C) (out : Out (Reply P C)) (world next : World P C)
        → StepsTo gives meanings world call (Ok out) next → Watched world → Watched next
    watched_next call out world next may w =
        let after = (step gives meanings call world).after in
        let trail : Trail meanings (handed_in call) world (effects meanings call out.reply) out.sent after =
        subst (λ answer. TellsBy meanings (handed_in call) world (effects meanings call) answer after) may.0
        (told_step gives meanings call world).tells in
        subst Watched (sym may.1) (watched_changes meanings trail.changes w)

    pub watched_run : (calls : List (Call P C)) (answers : List (Result (Out (Reply P C)) Refusal))
        (world last : World P C) → Run gives meanings world calls answers last → Watched world → Watched last
    watched_run [] [] world last run w = subst Watched (sym run) w
    watched_run (call ∷ calls) (Ok out ∷ answers) world last run w =
        watched_run calls answers run.0 last run.2 (watched_next call out world run.0 run.1 w)
    watched_run (call ∷ calls) (Err refusal ∷ answers) world last run w =
        watched_run calls answers run.0 last run.2 (subst Watched (sym run.1.1) w)
    watched_run [] (answer ∷ answers) world last run w = absurd run
    watched_run (call ∷ calls) [] world last run w = absurd run

-- ---- the laws

module _ {P C : Type 0} (gives : P → Partial) (meanings : C → Meanings) where
  pub first_counts : (tag start : ℕ) → Counts (starting_world {P = P} {C = C} tag start)
  first_counts tag start = record { sessions = tt; hubs = tt; given = λ n hub at. absurd cc }

  pub counts_run : (tag start : ℕ) (calls : List (Call P C)) (answers : List (Result (Out (Reply P C)) Refusal))
      (last : World P C) → Run gives meanings (starting_world tag start) calls answers last → Counts last
  counts_run tag start calls answers last run =
      (watched_run 0 0 (λ o. Unit {0}) (inr (λ o. tt)) tt (λ old new later same h. tt) gives meanings calls answers
      (starting_world tag start) last run
      (record {
        counts = first_counts tag start;
        given = omega arith;
        holds = tt;
      })).counts

pub under_by : (b : Bool) (o : Option SessionHistory) → b ≡ true → (if b then o else None) ≡ None → o ≡ None
under_by true o e h = h
under_by false o e h = absurd cc

pub none_under : (b : Bool) (o : Option SessionHistory) → o ≡ None → (if b then o else None) ≡ None
none_under true o h = h
none_under false o h = refl

module _ {P C : Type 0} (gives : P → Partial) (meanings : C → Meanings) where
  pub end_is : (key : HubKey) (status : SessionStatus) (now : ℕ) (world : World P C) (hub : HubState P) (session : SessionKey)
      → hub_at world key ≡ Some hub → hub.stack.top.session ≡ Some session
      → session_calls.end_session_with_status key status now world ≡ reply_sending tt
      (end_session session (Some status) now world)
  unfolding session_calls.end_session_with_status
  end_is key status now world hub session found is = rw found (rw is refl)

  pub none_ended : (session : SessionKey) (status : SessionStatus) (now : ℕ) (world : World P C)
      → session_at world session ≡ None → end_session session (Some status) now world ≡ send_nothing world
  unfolding end_session
  none_ended session status now world none = rw none refl

  pub end_after : (key : HubKey) (status : SessionStatus) (now : ℕ) (world : World P C)
      → (step gives meanings (group.Hub (EndSessionWithStatus key status now)) world).after ≡
      (session_calls.end_session_with_status key status now world).after
  unfolding hub_step
  end_after key status now world = refl

  pub end_answer : (key : HubKey) (status : SessionStatus) (now : ℕ) (world : World P C)
      → (step gives meanings (group.Hub (EndSessionWithStatus key status now)) world).answer ≡ map_answer
      (λ _. reply.Done) (session_calls.end_session_with_status key status now world).answer
  unfolding hub_step
  end_answer key status now world = refl
