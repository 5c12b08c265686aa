-- A client that is not closed changes, and sends envelopes.
use Rattle.std.proofs.Common.{◌≡◌, ap, ◌∙◌, sym, subst, List, [], Bool, true, false, cond}
use Rattle.std.specs.Prelude.{Option, Some}
use Rattle.sentry_base.specs.declared.protocol.client_report.ClientReport.{ClientReport}
use Rattle.sentry_base.specs.declared.protocol.envelope.Envelope.{Envelope}
use Rattle.sentry_base.specs.declared.protocol.keys.ClientKey.{ClientKey}
use Rattle.sentry_plain.specs.Tables.{value_at}
use Rattle.sentry_state.specs.Books.{pending_report}
use Rattle.sentry_state.specs.Outcomes.{client_at, stored_client_at}
use Rattle.sentry_sending.specs.Sending.{Sending, for_client, send, send_nothing, send_some, envelopes_from, after_sending}
use Rattle.sentry_state.specs.Changes.{with_client_history}
use Rattle.sentry_state.specs.Worlds.{World, ClientHistory, Stands, stored_client}
use Rattle.sentry_state.specs.declared.state.ClientState.{ClientState}
use Rattle.sentry_state.specs.declared.state.State.{State}
use Rattle.sentry_state.proofs.Keeping.{client_state}

module _ {P C : Type 0} (key : ClientKey) (envelopes : ClientHistory C → List Envelope) (after : ClientHistory C → ClientHistory C) where
  -- the form of the definitions that change the queues of a client
  abbrev pub change_client : World P C → Sending P C
  change_client world =
      send_some world (client_at world key) (λ client.
      cond client.closed (send_nothing world) (send key client (envelopes client) (with_client_history world key (after client))))

  change_client_is : (world : World P C) (client : ClientHistory C) → client_at world key ≡ Some client → client.closed ≡ false
      → change_client world ≡ send key client (envelopes client) (with_client_history world key (after client))
  change_client_is world client at going_on =
      ap (λ found. send_some world found (λ (state : ClientHistory C).
      cond state.closed (send_nothing world) (send key state (envelopes state) (with_client_history world key (after state))))) at
      ∙ ap (λ b. cond b (send_nothing world) (send key client (envelopes client) (with_client_history world key (after client)))) going_on

  -- what was sent and left for the client that the engine found is what the definition says
  pub client_changed : (old new : State P C) (world : World P C) → Stands old world → (kept : ClientState C)
      → Some kept ≡ stored_client_at world key → kept.closed ≡ false → (sent : List (ClientKey × Envelope))
      → ((client : ClientHistory C) → value_at old.clients key.number ≡ Some (stored_client client) → kept ≡ stored_client client
      → (sent ≡ envelopes_from kept.occupied key (pending_report world kept.label) (envelopes client))
      × Stands new (after_sending kept.label sent (with_client_history world key (after client))))
      → (sent ≡ (change_client world).sent) × Stands new (change_client world).after
  client_changed old new world s kept e going_on sent made =
      let found = client_state old world s key kept e in
      let client : ClientHistory C = found.0 in
      let is : kept ≡ stored_client client = found.3 in
      let both = made client found.1 is in
      let still : client.closed ≡ false = ap (λ (c : ClientState C). c.closed) (sym is) ∙ going_on in
      let expected : send key client (envelopes client) (with_client_history world key (after client)) ≡ change_client world =
      sym (change_client_is world client found.2 still) in
      let leaves : sent ≡ envelopes_from client.occupied key (pending_report world client.label) (envelopes client) =
      both.0 ∙ (λ i. envelopes_from (is i).occupied key (pending_report world (is i).label) (envelopes client)) in (
        leaves ∙ ap (λ (sending : Sending P C). sending.sent) expected,
        subst (λ (w : World P C). Stands new w)
            ((λ i. after_sending (is i).label (leaves i) (with_client_history world key (after client)))
            ∙ ap (λ (sending : Sending P C). sending.after) expected)
            both.1,
      )

  -- the same where nothing was sent
  pub client_changed_unsent : (old new : State P C) (world : World P C) → Stands old world → (kept : ClientState C)
      → Some kept ≡ stored_client_at world key → kept.closed ≡ false → (sent : List (ClientKey × Envelope)) → sent ≡ []
      → ((client : ClientHistory C) → value_at old.clients key.number ≡ Some (stored_client client) → kept ≡ stored_client client
      → ([] ≡ envelopes_from kept.occupied key (pending_report world kept.label) (envelopes client))
      × Stands new (with_client_history world key (after client)))
      → (sent ≡ (change_client world).sent) × Stands new (change_client world).after
  client_changed_unsent old new world s kept e going_on sent none made =
      client_changed old new world s kept e going_on sent (λ client there is.
      let both = made client there is in (
        none ∙ both.0,
        subst (λ (l : List (ClientKey × Envelope)). Stands new (after_sending kept.label l (with_client_history world key (after client)))) (sym none) both.1,
      ))

-- what leaves an empty slot, and an occupied one
pub unsent_if_empty : (key : ClientKey) (occupied : Bool) (report : Option ClientReport) (envelopes : List Envelope)
    → occupied ≡ false → [] ≡ envelopes_from occupied key report envelopes
unsent_if_empty key occupied report envelopes empty = ap (λ b. envelopes_from b key report envelopes) (sym empty)

pub sent_if_occupied : (key : ClientKey) (occupied : Bool) (report : Option ClientReport) (envelopes : List Envelope) (sent : List (ClientKey × Envelope))
    → occupied ≡ true → sent ≡ for_client key report envelopes → sent ≡ envelopes_from occupied key report envelopes
sent_if_occupied key occupied report envelopes sent full is = is ∙ ap (λ b. envelopes_from b key report envelopes) (sym full)
