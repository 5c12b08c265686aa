-- A client is closed exactly if an accepted call closed it, and then nothing of its waits.
use Rattle.std.proofs.Common.{◌≡◌, ◌<◌, refl, ap, ◌∙◌, sym, subst, ℕ, List, [], ◌∷◌, Bool, true, false, ◌⊎◌, inl, inr}
use Rattle.std.proofs.lemmas.Bool.{or_right}
use Rattle.std.specs.Prelude.{Option, Some, None, Result, Ok, Err, if◌then◌else◌, ◌==◌, ◌||◌}
use Rattle.std.specs.List.{list_any}
use Rattle.std.specs.Option.{option_map}
use Rattle.sentry_plain.specs.Tables.{value_at}
use Rattle.sentry_plain.proofs.NumberLemmas.{same_number}
use Rattle.sentry_base.specs.Callbacks.{Partial}
use Rattle.sentry_base.specs.declared.protocol.envelope.Envelope.{Envelope}
use Rattle.sentry_base.specs.declared.protocol.keys.ClientKey.{ClientKey}
use Rattle.sentry_base.specs.declared.protocol.refusal.Refusal.{Refusal}
use Rattle.sentry_base.specs.declared.protocol.refusal.Refusal.TheVariants.{Stale}
use Rattle.sentry_options.specs.Meanings.{Meanings}
use Rattle.sentry_telemetry.specs.declared.flushes.Flush.TheVariants.{All, Due, Closing}
use Rattle.sentry_telemetry.specs.Flushes.{flush_queues, flushed_envelopes, after_flush}
use Rattle.sentry_sending.specs.Sending.{send, send_nothing, send_some, reply_sending, after_sending}
use Rattle.sentry_state.specs.declared.state.Out.{Out}
use Rattle.sentry_state.specs.Clients.{queues_from}
use Rattle.sentry_state.specs.Outcomes.{require_some, client_at}
use Rattle.sentry_state.specs.Changes.{with_client_history}
use Rattle.sentry_state.specs.Worlds.{World, ClientHistory, stored_client, starting_world}
use Rattle.sentry_calls.specs.Clients as clients
use Rattle.sentry_calls.specs.declared.call.Call.{Call}
use Rattle.sentry_calls.specs.declared.call.Call.TheVariants as group
use Rattle.sentry_calls.specs.declared.call.clients.ClientCall.{ClientCall}
use Rattle.sentry_calls.specs.declared.call.clients.ClientCall.TheVariants.{AddClient, CloneClient, TakeReport, Close}
use Rattle.sentry_calls.specs.declared.call.hubs.HubCall.{HubCall}
use Rattle.sentry_calls.specs.declared.call.hubs.HubCall.TheVariants.{NewHub, NewHubFromTop}
use Rattle.sentry_calls.specs.declared.call.Reply.{Reply}
use Rattle.sentry_calls.specs.declared.call.Reply.TheVariants as reply
use Rattle.sentry_calls.specs.Replies.{map_answer}
use Rattle.sentry_calls.specs.Runs.{StepsTo, Run}
use Rattle.sentry_calls.specs.Steps.{client_step}
use Rattle.sentry_laws.specs.Closed.{closes, is_closed_by, HasNothingWaiting, ClosedByCalls}
use Rattle.sentry_laws.proofs.Effects.{a_close, effects, client_effects, hub_effects}
use Rattle.sentry_laws.proofs.Changes.{kind_of, Arrival, log_came, metric_came, session_ended, flush_came, after_arrival}
use Rattle.sentry_laws.proofs.Found.{found_replaced, found_below}
use Rattle.sentry_laws.proofs.Keeping.{trail_of}
use Rattle.sentry_laws.proofs.Numbered.{IsNumbered, numbered_changes, none_numbered}
use Rattle.sentry_laws.proofs.OneClient.{follows_call, is_mine}
use Rattle.sentry_laws.proofs.Parts.{flush_part}
use Rattle.sentry_laws.proofs.Tests.{or_none, or_more}
use Rattle.sentry_laws.proofs.Trails.{neither, found_under}

module _ {C : Type 0} where
  -- the client is closed or not, and if it is, nothing of its waits
  abbrev pub IsShut : Bool → ClientHistory C → Type 0
  IsShut closed client = (client.closed ≡ closed) × (client.closed ≡ true → HasNothingWaiting client)

  -- the last flush alone closes a client
  shut_keeps : (closed : Bool) (arrival : Arrival) (client : ClientHistory C) → client.closed ≡ false
      → (kind_of arrival ≡ Some a_close → ⊥) → IsShut closed client → IsShut closed (after_arrival arrival client)
  shut_keeps closed (log_came log) client open_ other h = (h.0, λ shut. neither client.closed open_ shut)
  shut_keeps closed (metric_came metric) client open_ other h = (h.0, λ shut. neither client.closed open_ shut)
  shut_keeps closed (session_ended update) client open_ other h = (h.0, λ shut. neither client.closed open_ shut)
  shut_keeps closed (flush_came All) client open_ other h =
      (or_none client.closed ∙ h.0, λ shut. neither client.closed open_ (sym (or_none client.closed) ∙ shut))
  shut_keeps closed (flush_came (Due now)) client open_ other h =
      (or_none client.closed ∙ h.0, λ shut. neither client.closed open_ (sym (or_none client.closed) ∙ shut))
  shut_keeps closed (flush_came Closing) client open_ other h = absurd (other refl)

  new_shut : (closed : Bool) → closed ≡ false → (client : ClientHistory C) (now : ℕ) → client.queues ≡ queues_from now
      → client.closed ≡ false → IsShut closed client
  new_shut closed none client now queues open_ = (open_ ∙ sym none, λ shut. neither client.closed open_ shut)

same_client : {C : Type 0} (o : Option (ClientHistory C)) (x y : ClientHistory C) → o ≡ Some x → o ≡ Some y → x ≡ y
same_client o x y p q = cc

module _ {P C : Type 0} where
  -- the client with this number, if it is held, is closed or not, and if it is, nothing of its waits; it was held if it is
  -- closed
  pub record IsClosedBy (n : ℕ) (closed : Bool) (world : World P C) : Type 0 where
    pub so_far : (c : ClientHistory C) → value_at world.clients n ≡ Some c → IsShut closed c
    pub given : (n < world.next.client) ⊎ (closed ≡ false)

  pub none_closed : (tag start n : ℕ) → IsClosedBy n false (starting_world {P = P} {C = C} tag start)
  none_closed tag start n = record { so_far = λ c at. absurd cc; given = inr refl }

  -- ---- the last flush

  -- the clients after it
  closed_clients : (key : ClientKey) (world : World P C) (client : ClientHistory C) → client_at world key ≡ Some client
      → (n : ℕ)
      → value_at (flush_queues Closing key world).after.clients n
      ≡ (if client.closed then value_at world.clients n
      else (if n == key.number then Some (after_flush Closing client) else value_at world.clients n))
  unfolding flush_queues
  closed_clients key world client found n = by_found (client_at world key) found
    where
      by_closed : (b : Bool)
          → value_at (if b then send_nothing world else send key client
          (flushed_envelopes Closing client.options.plain client.queues)
          (with_client_history world key (after_flush Closing client))).after.clients n
          ≡ (if b then value_at world.clients n
          else (if n == key.number then Some (after_flush Closing client) else value_at world.clients n))
      by_closed true = refl
      by_closed false =
          ap (λ (t : List (ℕ × ClientHistory C)). value_at t n)
          (sending_clients (send key client (flushed_envelopes Closing client.options.plain client.queues)
          (with_client_history world key (after_flush Closing client))).sent)
          ∙ found_replaced world.clients key.number n (after_flush Closing client) client
          (found_under world.tag world.clients key.tag key.number client found)
        where
          sending_clients : (sent : List (ClientKey × Envelope))
              → (after_sending client.label sent (with_client_history world key (after_flush Closing client))).clients
              ≡ (with_client_history world key (after_flush Closing client)).clients
          sending_clients [] = refl
          sending_clients (first ∷ rest) = refl

      by_found : (o : Option (ClientHistory C)) → o ≡ Some client
          → value_at (send_some world o (λ c. if c.closed then send_nothing world else send key c
          (flushed_envelopes Closing c.options.plain c.queues)
          (with_client_history world key (after_flush Closing c)))).after.clients n
          ≡ (if client.closed then value_at world.clients n
          else (if n == key.number then Some (after_flush Closing client) else value_at world.clients n))
      by_found None e = absurd cc
      by_found (Some c) e =
          let same : client ≡ c = cc in
          subst (λ (c : ClientHistory C). value_at (if c.closed then send_nothing world else send key c
          (flushed_envelopes Closing c.options.plain c.queues)
          (with_client_history world key (after_flush Closing c))).after.clients n
          ≡ (if client.closed then value_at world.clients n
          else (if n == key.number then Some (after_flush Closing client) else value_at world.clients n))) same
          (by_closed client.closed)

  closed_after : (key : ClientKey) (world : World P C) (client : ClientHistory C) → client_at world key ≡ Some client
      → (n : ℕ) (closed : Bool) → IsNumbered world → IsClosedBy n closed world
      → IsClosedBy n (closed || (n == key.number)) (flush_queues Closing key world).after
  closed_after key world client found n closed numbered k = record {
    so_far = λ c at. by_case client.closed refl (n == key.number) refl c
        (sym (closed_clients key world client found n) ∙ at);
    given = subst (λ next. (n < next) ⊎ ((closed || (n == key.number)) ≡ false)) (sym next_same)
        (by_number (n == key.number) refl k.given);
  }
    where
      here : value_at world.clients key.number ≡ Some client
      here = found_under world.tag world.clients key.tag key.number client found

      next_same : (flush_queues Closing key world).after.next.client ≡ world.next.client
      next_same = flush_part (λ (w : World P C). w.next.client) (λ w b. refl) (λ w c. refl) Closing key world

      by_number : (b : Bool) → (n == key.number) ≡ b → (n < world.next.client) ⊎ (closed ≡ false)
          → (n < world.next.client) ⊎ ((closed || b) ≡ false)
      by_number true e given =
          inl (found_below 0 world.next.client n world.clients client numbered.clients
          (ap (value_at world.clients) (same_number n key.number e) ∙ here))
      by_number false e (inl low) = inl low
      by_number false e (inr none) = inr (or_none closed ∙ none)

      by_case : (b : Bool) → client.closed ≡ b → (own : Bool) → (n == key.number) ≡ own → (c : ClientHistory C)
          → (if b then value_at world.clients n
          else (if own then Some (after_flush Closing client) else value_at world.clients n)) ≡ Some c
          → IsShut (closed || own) c
      by_case true shut true e c at =
          let known = k.so_far c at in
          let same : c ≡ client = same_client (value_at world.clients n) c client at
          (ap (value_at world.clients) (same_number n key.number e) ∙ here) in
          (ap (λ (x : ClientHistory C). x.closed) same ∙ (shut ∙ sym (or_right closed true refl)), known.1)
      by_case true shut false e c at =
          let known = k.so_far c at in (known.0 ∙ sym (or_none closed), known.1)
      by_case false shut true e c at =
          let is : after_flush Closing client ≡ c = cc in
          subst (IsShut (closed || true)) is
          (or_right client.closed true refl ∙ sym (or_right closed true refl), λ shut. (refl, refl))
      by_case false shut false e c at =
          let known = k.so_far c at in (known.0 ∙ sym (or_none closed), known.1)

-- ---- one call

module _ {P C : Type 0} (gives : P → Partial) (meanings : C → Meanings) where
  -- another call closes none
  closes_none : (n : ℕ) (call : Call P C) (made : Reply P C)
      → list_any (is_mine a_close) (effects meanings call made) ≡ false → closes n call ≡ false
  closes_none n (group.Client call) made h = by_client call h
    where
      by_client : (call : ClientCall P C) → list_any (is_mine a_close) (client_effects meanings call made) ≡ false
          → closes {P = P} n (group.Client call) ≡ false
      by_client (Close key) h = absurd cc
      by_client call h = refl
  closes_none n (group.Hub call) made h = refl
  closes_none n (group.Span call) made h = refl

  close_is : (key : ClientKey) (out : Out (Reply P C)) (world : World P C)
      → (client_step gives meanings (Close key) world).answer ≡ Ok out
      → (client : ClientHistory C) × (client_at world key ≡ Some client)
      × ((client_step gives meanings (Close key) world).after ≡ (flush_queues Closing key world).after)
  unfolding client_step clients.close
  close_is key out world e = by_client (client_at world key) refl e
    where
      by_client : (o : Option (ClientHistory C)) → client_at world key ≡ o
          → map_answer (λ _. reply.Done) (require_some {T = Unit {0}} Stale world (option_map stored_client o)
          (λ client. reply_sending tt (flush_queues Closing key world))).answer ≡ Ok out
          → (client : ClientHistory C) × (client_at world key ≡ Some client)
          × ((require_some {T = Unit {0}} Stale world (option_map stored_client (client_at world key))
          (λ client. reply_sending tt (flush_queues Closing key world))).after
          ≡ (flush_queues Closing key world).after)
      by_client None found e = absurd cc
      by_client (Some client) found e = (
        client,
        found,
        ap (λ (o : Option (ClientHistory C)). (require_some {T = Unit {0}} Stale world
            (option_map stored_client o) (λ client. reply_sending tt (flush_queues Closing key world))).after) found,
      )

  closed_by_call : (call : Call P C) (out : Out (Reply P C)) (world next : World P C)
      → list_any (is_mine a_close) (effects meanings call out.reply) ≡ true
      → StepsTo gives meanings world call (Ok out) next → IsNumbered world → (n : ℕ) (closed : Bool)
      → IsClosedBy n closed world → IsClosedBy n (closed || closes n call) next
  closed_by_call (group.Client call) out world next h may m n closed k = by_client call out.reply h may.0 may.1
    where
      by_client : (call : ClientCall P C) (made : Reply P C)
          → list_any (is_mine a_close) (client_effects meanings call made) ≡ true
          → (client_step gives meanings call world).answer ≡ Ok out
          → next ≡ (client_step gives meanings call world).after
          → IsClosedBy n (closed || closes {P = P} n (group.Client call)) next
      by_client (Close key) made h answered is =
          let c = close_is key out world answered in
          subst (IsClosedBy n (closed || (n == key.number))) (sym (is ∙ c.2))
          (closed_after key world c.0 c.1 n closed m k)
      by_client (AddClient options transport label now) (reply.Client key) h answered is = absurd cc
      by_client (AddClient options transport label now) _ h answered is = absurd cc
      by_client (CloneClient client now) (reply.Client key) h answered is = absurd cc
      by_client (CloneClient client now) _ h answered is = absurd cc
      by_client (TakeReport label) (reply.Report report) h answered is = absurd cc
      by_client (TakeReport label) _ h answered is = absurd cc
      by_client call made h answered is = absurd cc
  closed_by_call (group.Hub call) out world next h may m n closed k = by_hub call out.reply h
    where
      by_hub : (call : HubCall P) (made : Reply P C)
          → list_any (is_mine {P = P} {C = C} a_close) (hub_effects meanings call made) ≡ true
          → IsClosedBy n (closed || closes {P = P} {C = C} n (group.Hub call)) next
      by_hub (NewHub client scope) (reply.Hub key) h = absurd cc
      by_hub (NewHub client scope) _ h = absurd cc
      by_hub (NewHubFromTop hub) (reply.Hub key) h = absurd cc
      by_hub (NewHubFromTop hub) _ h = absurd cc
      by_hub call made h = absurd cc
  closed_by_call (group.Span call) out world next h may m n closed k = absurd cc

  pub closed_next : (call : Call P C) (out : Out (Reply P C)) (world next : World P C)
      → StepsTo gives meanings world call (Ok out) next → IsNumbered world → (n : ℕ) (closed : Bool)
      → IsClosedBy n closed world → IsClosedBy n (closed || closes n call) next
  closed_next call out world next may m n closed k =
      by_effect (list_any (is_mine a_close) (effects meanings call out.reply)) refl
    where
      by_effect : (b : Bool) → list_any (is_mine a_close) (effects meanings call out.reply) ≡ b
          → IsClosedBy n (closed || closes n call) next
      by_effect true e = closed_by_call call out world next e may m n closed k
      by_effect false e =
          let f = follows_call a_close (IsShut closed) (shut_keeps closed) (closed ≡ false) (new_shut closed)
          gives meanings call out world next may e n
          (record { so_far = k.so_far; given = k.given; clients = m.clients }) in
          subst (λ b. IsClosedBy n b next)
          (sym (ap (λ b. closed || b) (closes_none n call out.reply e) ∙ or_none closed))
          (record { so_far = f.so_far; given = f.given })

  -- ---- runs

  closed_run : (calls : List (Call P C)) (answers : List (Result (Out (Reply P C)) Refusal)) (world last : World P C)
      → Run gives meanings world calls answers last → IsNumbered world → (n : ℕ) (closed : Bool)
      → IsClosedBy n closed world → IsClosedBy n (closed || is_closed_by n calls answers) last
  closed_run [] [] world last run m n closed k =
      subst (λ b. IsClosedBy n b last) (sym (or_none closed)) (subst (IsClosedBy n closed) (sym run) k)
  closed_run (call ∷ calls) (Ok out ∷ answers) world last run m n closed k =
      subst (λ b. IsClosedBy n b last) (sym (or_more closed (closes n call) (is_closed_by n calls answers)))
      (closed_run calls answers run.0 last run.2
      (numbered_changes meanings (trail_of gives meanings call out world run.0 run.1).changes m) n
      (closed || closes n call) (closed_next call out world run.0 run.1 m n closed k))
  closed_run (call ∷ calls) (Err refusal ∷ answers) world last run m n closed k =
      closed_run calls answers run.0 last run.2 (subst IsNumbered (sym run.1.1) m) n closed
      (subst (IsClosedBy n closed) (sym run.1.1) k)
  closed_run [] (answer ∷ answers) world last run m n closed k = absurd run
  closed_run (call ∷ calls) [] world last run m n closed k = absurd run

  pub closed_by_calls : (tag start : ℕ) (calls : List (Call P C)) (answers : List (Result (Out (Reply P C)) Refusal))
      (last : World P C) → Run gives meanings (starting_world tag start) calls answers last
      → ClosedByCalls calls answers last
  closed_by_calls tag start calls answers last run number client found =
      let shut = (closed_run calls answers (starting_world tag start) last run (none_numbered tag start) number false
      (none_closed tag start number)).so_far client found in
      (shut.0, λ closed. shut.1 (shut.0 ∙ closed))
