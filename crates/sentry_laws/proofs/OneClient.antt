-- What a call keeps of one client, where it brings nothing of one kind to its queues.
use Rattle.std.proofs.Common.{◌≡◌, ◌<◌, refl, ap, ◌∙◌, sym, subst, ℕ, ◌+◌, List, [], ◌∷◌, Bool, true, false, arith, ◌⊎◌, inl, inr}
use Rattle.std.specs.Prelude.{Option, Some, None, Ok, if◌then◌else◌, ◌==◌}
use Rattle.std.specs.List.{list_any}
use Rattle.sentry_plain.specs.Tables.{value_at, put}
use Rattle.sentry_plain.proofs.NumberLemmas.{same_number}
use Rattle.sentry_base.specs.Callbacks.{Partial}
use Rattle.sentry_base.specs.declared.protocol.envelope.Envelope.{Envelope}
use Rattle.sentry_base.specs.declared.protocol.keys.ClientKey.{ClientKey}
use Rattle.sentry_base.specs.declared.protocol.keys.Label.{Label}
use Rattle.sentry_options.specs.Meanings.{Meanings}
use Rattle.sentry_client_reports.specs.LossBooks.{LossEntry}
use Rattle.sentry_sending.specs.Sending.{send, after_sending}
use Rattle.sentry_state.specs.declared.state.Out.{Out}
use Rattle.sentry_state.specs.Clients.{queues_from, clone_from}
use Rattle.sentry_state.specs.Outcomes.{client_at}
use Rattle.sentry_state.specs.Changes.{with_client_history}
use Rattle.sentry_state.specs.Worlds.{World, ClientHistory}
use Rattle.sentry_calls.specs.declared.call.Call.{Call}
use Rattle.sentry_calls.specs.declared.call.Reply.{Reply}
use Rattle.sentry_calls.specs.Runs.{StepsTo}
use Rattle.sentry_laws.proofs.Effects.{Came, a_log, a_metric, a_close, Effect, came_to_queues, effects}
use Rattle.sentry_laws.proofs.Changes.{Change, Changes, nothing, one, both, IsArrival, kind_of, Arrival, log_came, metric_came, session_ended, flush_came, after_arrival, envelopes_on_arrival, adds_client, clones_client, drops_client, arrives, accepts}
use Rattle.sentry_laws.proofs.Tables.{AreBelow, below_put, below_replaced, below_without}
use Rattle.sentry_laws.proofs.Found.{found_put, found_replaced, found_without}
use Rattle.sentry_laws.proofs.Keeping.{trail_of}
use Rattle.std.proofs.lemmas.Bool.{or_parts}
use Rattle.sentry_laws.proofs.Tests.{any_first, any_second}
use Rattle.sentry_laws.proofs.Trails.{neither, found_under, own_effects, own_any}

abbrev agree : Came → Came → Bool
agree a_log a_log = true
agree a_metric a_metric = true
agree a_close a_close = true
agree _ _ = false

itself : (kind : Came) → agree kind kind ≡ true
itself a_log = refl
itself a_metric = refl
itself a_close = refl

-- what comes is of one kind
differs : (kind other : Came) (arrival : Arrival) → agree kind other ≡ false → kind_of arrival ≡ Some kind
    → kind_of arrival ≡ Some other → ⊥
differs kind other arrival apart is also =
    let both_ : Some kind ≡ Some other = sym is ∙ also in
    let same : kind ≡ other = cc in
    neither (agree kind kind) (ap (agree kind) same ∙ apart) (itself kind)

-- what arrives beside the kinds is of none
arrives_otherwise : {P C : Type 0} (kind : Came) (world : World P C) (arrival : Arrival) → IsArrival world arrival
    → kind_of arrival ≡ Some kind → ⊥
arrives_otherwise kind world (log_came log) came is = came
arrives_otherwise kind world (metric_came metric) came is = came
arrives_otherwise kind world (session_ended update) came is = absurd cc
arrives_otherwise kind world (flush_came flush) came is =
    let none : None ≡ Some kind = sym (ap (λ (b : Bool). if b then Some a_close else None) came) ∙ is in absurd cc

-- this may have come
abbrev pub is_mine : {P C : Type 0} → Came → Effect P C → Bool
is_mine kind (came_to_queues other) = agree other kind
is_mine kind _ = false

module _ (kind : Came) {P C : Type 0} where
  own_mine : (some : List (Effect P C)) → list_any (is_mine kind) (own_effects some) ≡ list_any (is_mine kind) some
  own_mine = own_any (is_mine kind) (λ number session. refl)

-- what holds of a client, and goes on to hold where something of another kind comes to its queues; it holds of a new
-- client where `Fresh` does
module _ {C : Type 0} (kind : Came) (IsSo : ClientHistory C → Type 0)
    (keeps : (arrival : Arrival) (client : ClientHistory C) → client.closed ≡ false → (kind_of arrival ≡ Some kind → ⊥)
    → IsSo client → IsSo (after_arrival arrival client))
    (Fresh : Type 0) (fresh : Fresh → (client : ClientHistory C) (now : ℕ) → client.queues ≡ queues_from now
    → client.closed ≡ false → IsSo client) where
  more_given : (n next : ℕ) → (n < next) ⊎ Fresh → (n < next + 1) ⊎ Fresh
  more_given n next (inl h) = inl (omega (arith, h))
  more_given n next (inr h) = inr h

  module _ {P : Type 0} (meanings : C → Meanings) (n : ℕ) where
    -- it holds of the client with this number, if that is held
    pub record Follows (world : World P C) : Type 0 where
      pub so_far : (c : ClientHistory C) → value_at world.clients n ≡ Some c → IsSo c
      pub given : (n < world.next.client) ⊎ Fresh
      pub clients : AreBelow 0 world.next.client world.clients

    added : (world : World P C) (client : ClientHistory C) (now : ℕ) (books : List (ℕ × List LossEntry))
        → client.queues ≡ queues_from now → client.closed ≡ false → Follows world → Follows (record world {
          next = record world.next { client = world.next.client + 1 };
          clients = put world.clients world.next.client client;
          books = books;
        })
    added world client now books queues open_ a = record {
      so_far = λ c at. by_number (n == world.next.client) refl c
          (sym (found_put world.clients world.next.client n client) ∙ at);
      given = more_given n world.next.client a.given;
      clients = below_put world.next.client client world.clients a.clients;
    }
      where
        new_one : (n == world.next.client) ≡ true → (n < world.next.client) ⊎ Fresh → IsSo client
        new_one e (inl h) = let same = same_number n world.next.client e in absurd (omega (arith, same, h))
        new_one e (inr h) = fresh h client now queues open_

        by_number : (b : Bool) → (n == world.next.client) ≡ b → (c : ClientHistory C)
            → (if b then Some client else value_at world.clients n) ≡ Some c → IsSo c
        by_number true e c at = let same : client ≡ c = cc in subst IsSo same (new_one e a.given)
        by_number false e c at = a.so_far c at

    arrived : (world : World P C) (key : ClientKey) (client : ClientHistory C) (arrival : Arrival)
        → client_at world key ≡ Some client → client.closed ≡ false → (kind_of arrival ≡ Some kind → ⊥) → Follows world
        → Follows (with_client_history world key (after_arrival arrival client))
    arrived world key client arrival found open_ other a = record {
      so_far = λ c at. by_number (n == key.number) refl c
          (sym (found_replaced world.clients key.number n (after_arrival arrival client) client here) ∙ at);
      given = a.given;
      clients = below_replaced 0 world.next.client key.number (after_arrival arrival client) world.clients a.clients;
    }
      where
        here : value_at world.clients key.number ≡ Some client
        here = found_under world.tag world.clients key.tag key.number client found

        by_number : (b : Bool) → (n == key.number) ≡ b → (c : ClientHistory C)
            → (if b then Some (after_arrival arrival client) else value_at world.clients n) ≡ Some c → IsSo c
        by_number true e c at =
            let same : after_arrival arrival client ≡ c = cc in
            subst IsSo same (keeps arrival client open_ other
            (a.so_far client (ap (value_at world.clients) (same_number n key.number e) ∙ here)))
        by_number false e c at = a.so_far c at

    sending_follows : (label : Label) (sent : List (ClientKey × Envelope)) (world : World P C) → Follows world
        → Follows (after_sending label sent world)
    sending_follows label [] world a = a
    sending_follows label (first ∷ rest) world a =
        record { so_far = a.so_far; given = a.given; clients = a.clients }

    follows_change : {f : Option Envelope} {old new : World P C} {some : List (Effect P C)} {sent : List
        (ClientKey × Envelope)} → Change meanings f old some sent new
        → list_any (is_mine kind) some ≡ false → Follows old → Follows new
    follows_change (adds_client world client now queues open_ of_engine) h a = added world client now _ queues open_ a
    follows_change (clones_client world original client now found) h a =
        added world (clone_from now client) now world.books refl refl a
    follows_change (drops_client world key client label found same unnamed) h a = record {
      so_far = λ c at. by_number (n == key.number) c
          (sym (found_without 0 world.next.client world.clients key.number n a.clients) ∙ at);
      given = a.given;
      clients = below_without 0 world.next.client key.number world.clients a.clients;
    }
      where
        by_number : (b : Bool) (c : ClientHistory C) → (if b then None else value_at world.clients n) ≡ Some c
            → IsSo c
        by_number true c at = absurd cc
        by_number false c at = a.so_far c at
    follows_change (arrives world key client arrival is_off found open_ came) h a =
        sending_follows client.label (send key client (envelopes_on_arrival arrival client)
        (with_client_history world key (after_arrival arrival client))).sent
        (with_client_history world key (after_arrival arrival client))
        (arrived world key client arrival found open_ (arrives_otherwise kind world arrival came) a)
    follows_change (accepts world key client arrival other is_off found open_ came) h a =
        sending_follows client.label (send key client (envelopes_on_arrival arrival client)
        (with_client_history world key (after_arrival arrival client))).sent
        (with_client_history world key (after_arrival arrival client))
        (arrived world key client arrival found open_
        (differs other kind arrival (or_parts (agree other kind) _ h).0 came) a)
    follows_change _ h a = record { so_far = a.so_far; given = a.given; clients = a.clients }

    follows_changes : {f : Option Envelope} {old new : World P C} {some : List (Effect P C)} {sent : List
        (ClientKey × Envelope)} → Changes meanings f old some sent new
        → list_any (is_mine kind) some ≡ false → Follows old → Follows new
    follows_changes (nothing world) h a = a
    follows_changes (one c) h a = follows_change c h a
    follows_changes (both {first = first} {second = second} t u) h a =
        follows_changes u (any_second (is_mine kind) first second h)
        (follows_changes t (any_first (is_mine kind) first second h) a)

  module _ {P : Type 0} (gives : P → Partial) (meanings : C → Meanings) where
    -- by a call that brings nothing of this kind
    pub follows_call : (call : Call P C) (out : Out (Reply P C)) (world next : World P C)
        → StepsTo gives meanings world call (Ok out) next → list_any (is_mine kind) (effects meanings call out.reply) ≡ false
        → (n : ℕ) → Follows {P = P} meanings n world → Follows {P = P} meanings n next
    follows_call call out world next may none n a =
        let trail = trail_of gives meanings call out world next may in
        follows_changes {P = P} meanings n trail.changes
        (sym (own_mine kind trail.effects) ∙ (ap (list_any (is_mine kind)) trail.same ∙ none)) a
