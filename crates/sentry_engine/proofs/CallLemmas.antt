-- What calls come to, once it is known what they found.
use Rattle.std.proofs.lemmas.Bool.{and_parts}
use Rattle.std.proofs.lemmas.Bool.Decides.{nat_tests}
use Rattle.std.proofs.Common.{arith, ◌≡◌, refl, ap, ◌∙◌, ℕ, ◌+◌, ◌-◌, ◌^◌, Bool, true, false, List, []}
use Rattle.std.specs.Prelude.{Option, Some, None, nat_lt, ◌==◌, ◌&&◌, if◌then◌else◌}
use Rattle.std.specs.List.{list_any}
use Rattle.std.specs.Option.{option_map}
use Rattle.sentry_base.specs.declared.protocol.fresh.Fresh.{Fresh}
use Rattle.sentry_base.specs.declared.protocol.keys.HubKey.{HubKey}
use Rattle.sentry_base.specs.declared.protocol.refusal.Refusal.TheVariants.{Stale}
use Rattle.sentry_base.specs.declared.protocol.keys.ClientKey.{ClientKey}
use Rattle.sentry_plain.specs.Tables.{without, put}
use Rattle.sentry_sessions.specs.Sessions.{start_of}
use Rattle.sentry_base.specs.declared.protocol.session.SessionAttributes.{SessionAttributes}
use Rattle.sentry_options.specs.Meanings.{Meanings}
use Rattle.sentry_scope.specs.EditLists.{all_name_held_spans, renames_after}
use Rattle.sentry_scope.specs.Scopes.{edit_all}
use Rattle.sentry_options.specs.declared.clientoptions.ClientOptions.{ClientOptions}
use Rattle.sentry_scope.specs.Stacks.{depth, pop}
use Rattle.sentry_scope.specs.declared.scope.edit.ScopeEdit.{ScopeEdit}
use Rattle.sentry_base.specs.declared.protocol.keys.Label.{Label}
use Rattle.sentry_state.specs.Books.{without_unused_book, with_book}
use Rattle.sentry_calls.specs.Clients.{add_client, clone_client, drop_client}
use Rattle.sentry_state.specs.Clients.{clone_from, new_client, is_client_named, is_enabled_client, has_session_of}
use Rattle.sentry_telemetry.specs.Flushes.{flush_queues}
use Rattle.sentry_telemetry.specs.declared.flushes.Flush.TheVariants.{All}
use Rattle.sentry_calls.specs.Hubs.{configure, is_clear, with_renames}
use Rattle.sentry_calls.specs.Layers.{pop_scope}
use Rattle.sentry_state.specs.Outcomes.{Outcome, client_at, stored_client_at, hub_at, require_some, let_some, reply_with, with_hub}
use Rattle.sentry_hub_table.specs.Hubs.{with_scope, with_stack, with_session}
use Rattle.sentry_sending.specs.Sending.{reply_sending, release_session, replace_session}
use Rattle.sentry_state.specs.Changes.{is_session_number_left}
use Rattle.sentry_calls.specs.Active.{if_active}
use Rattle.sentry_calls.specs.Sessions.{start_session}
use Rattle.sentry_span_table.specs.SpanTables.{has_transaction_of}
use Rattle.sentry_state.specs.Worlds.{World, ClientHistory, stored_client, span_table}
use Rattle.sentry_state.specs.declared.state.ClientState.{ClientState}
use Rattle.sentry_hub_table.specs.declared.hub.HubState.{HubState}

-- a layer on top that is not the only one has others below it
pub is_above : (deep pushed : ℕ) → (deep == pushed && nat_lt 0 pushed) ≡ true → nat_lt 0 deep ≡ true
is_above deep pushed top =
    let same : (deep == pushed) ≡ true = (and_parts (deep == pushed) (nat_lt 0 pushed) top).0 in
    let above : nat_lt 0 pushed ≡ true = (and_parts (deep == pushed) (nat_lt 0 pushed) top).1 in
    grind (arith, nat_tests)

-- a client that is found as an engine stores it
found_of_stored : {C : Type 0} (found : Option (ClientHistory C)) (kept : ClientState C) → option_map stored_client found ≡ Some kept
    → (client : ClientHistory C) × (found ≡ Some client) × (kept ≡ stored_client client)
found_of_stored None kept is = absurd cc
found_of_stored (Some client) kept is = let same : kept ≡ stored_client client = cc in (client, refl, same)

module _ {P C : Type 0} where
  -- the world without a client, and without its book where that is unused
  abbrev pub dropped : ClientKey → Label → World P C → World P C
  dropped key label world = without_unused_book label (record world { clients = without world.clients key.number })

  -- a client that nothing names is flushed and dropped
  pub drop_client_is : (key : ClientKey) (world : World P C) (kept : ClientState C) → stored_client_at world key ≡ Some kept
      → is_client_named key world.hubs ≡ false → has_session_of key world.sessions ≡ false
      → has_transaction_of (span_table world) key ≡ false
      → drop_client key world ≡ reply_with tt (flush_queues All key world).sent (dropped key kept.label (flush_queues All key world).after)
  unfolding drop_client
  drop_client_is key world kept found unnamed no_session no_transaction =
      rw found (rw unnamed (rw no_session (rw no_transaction refl)))

  -- the top layer of a hub that is not the only one is popped
  pub pop_scope_is : (key : HubKey) (pushed now : ℕ) (world : World P C) (hub : HubState P) → hub_at world key ≡ Some hub
      → (depth hub.stack == pushed && nat_lt 0 pushed) ≡ true
      → pop_scope key pushed now world
      ≡ reply_with tt (release_session key.number hub now world).sent
      (with_hub (release_session key.number hub now world).after key (with_stack hub (pop hub.stack)))
  unfolding pop_scope
  pop_scope_is key pushed now world hub found top = rw found (rw top refl)

  -- a call on a hub that is active
  pub active_is : (key : HubKey) (call : World P C → Outcome P C (Unit {0})) (world : World P C) (hub : HubState P) (client_key : ClientKey) (client : ClientState C)
      → hub_at world key ≡ Some hub → hub.stack.top.client ≡ Some client_key
      → stored_client_at world client_key ≡ Some client → is_enabled_client client ≡ true → if_active key call world ≡ call world
  active_is key call world hub client_key client found named client_found enabled =
      ap (λ (o : Option (HubState P)). require_some Stale world o (λ held. let_some held.stack.top.client (reply_with tt [] world) (λ k.
      let_some (stored_client_at world k) (reply_with tt [] world) (λ c. if is_enabled_client c then call world else reply_with tt [] world)))) found
      ∙ (ap (λ (o : Option ClientKey). let_some o (reply_with tt [] world) (λ k.
      let_some (stored_client_at world k) (reply_with tt [] world) (λ c. if is_enabled_client c then call world else reply_with tt [] world))) named
      ∙ (ap (λ (o : Option (ClientState C)). let_some o (reply_with tt [] world) (λ c. if is_enabled_client c then call world else reply_with tt [] world)) client_found
      ∙ ap (λ (b : Bool). if b then call world else reply_with tt [] world) enabled))

  -- a session that starts
  pub start_session_is : (key : HubKey) (fresh : Fresh) (world : World P C) (hub : HubState P) (client_key : ClientKey) (client : ClientState C)
      → (attributes : SessionAttributes) → hub_at world key ≡ Some hub → hub.stack.top.client ≡ Some client_key
      → stored_client_at world client_key ≡ Some client → client.session_attributes ≡ Some attributes
      → is_session_number_left world ≡ true
      → start_session key fresh world
      ≡ reply_sending tt (replace_session key.number hub fresh.now
      (start_of client_key attributes hub.stack.top.scope.user fresh.uuid fresh.now) world)
  unfolding start_session
  start_session_is key fresh world hub client_key client attributes found named client_found has left =
      rw found (rw named (rw client_found (rw has (rw left refl))))

  -- edits one of which clears the scope
  pub configure_is : (key : HubKey) (edits : List (ScopeEdit P)) (now : ℕ) (world : World P C) (hub : HubState P) → hub_at world key ≡ Some hub
      → all_name_held_spans (span_table world) edits ≡ true → list_any is_clear edits ≡ true
      → configure key edits now world
      ≡ reply_with tt (release_session key.number hub now world).sent
      (with_renames (renames_after (span_table world) edits hub.stack.top.scope [])
      (with_hub (release_session key.number hub now world).after key (with_scope (with_session hub None) (edit_all edits hub.stack.top.scope))))
  unfolding configure
  configure_is key edits now world hub found held clears = rw found (rw held (rw clears refl))

  -- edits none of which clears the scope
  pub configure_kept_is : (key : HubKey) (edits : List (ScopeEdit P)) (now : ℕ) (world : World P C) (hub : HubState P) → hub_at world key ≡ Some hub
      → all_name_held_spans (span_table world) edits ≡ true → list_any is_clear edits ≡ false
      → configure key edits now world
      ≡ reply_with tt []
      (with_renames (renames_after (span_table world) edits hub.stack.top.scope [])
      (with_hub world key (with_scope hub (edit_all edits hub.stack.top.scope))))
  unfolding configure
  configure_kept_is key edits now world hub found held kept = rw found (rw held (rw kept refl))

  -- the world with one more client and a book for its label
  abbrev pub with_client_and_book : ClientHistory C → Label → World P C → World P C
  with_client_and_book client label world = record world {
    next = record world.next { client = world.next.client + 1 };
    clients = put world.clients world.next.client client;
    books = with_book world.books label.number;
  }

  -- a client that is added
  pub add_client_is : (meanings : C → Meanings) (options : ClientOptions C) (transport : Bool) (label : Label) (now : ℕ) (world : World P C)
      → (label.tag == world.tag) ≡ true → nat_lt world.next.client (2 ^ 64 - 1) ≡ true
      → add_client meanings options transport label now world
      ≡ reply_with (record { tag = world.tag; number = world.next.client }) []
      (with_client_and_book (new_client meanings options transport label now) label world)
  unfolding add_client
  add_client_is meanings options transport label now world own left = rw own (rw left refl)

  -- the world with one more client, whose label has a book
  abbrev pub with_client : ClientHistory C → World P C → World P C
  with_client client world = record world {
    next = record world.next { client = world.next.client + 1 };
    clients = put world.clients world.next.client client;
  }

  -- a client that is cloned
  pub clone_client_is : (key : ClientKey) (now : ℕ) (world : World P C) (client : ClientHistory C) → client_at world key ≡ Some client
      → nat_lt world.next.client (2 ^ 64 - 1) ≡ true
      → clone_client key now world
      ≡ reply_with (record { tag = world.tag; number = world.next.client }) [] (with_client (clone_from now client) world)
  unfolding clone_client
  clone_client_is key now world client found left = rw found (rw left refl)

  -- a client that is found under a key, as an engine stores it
  pub history_of_stored : (world : World P C) (key : ClientKey) (kept : ClientState C) → stored_client_at world key ≡ Some kept
      → (client : ClientHistory C) × (client_at world key ≡ Some client) × (kept ≡ stored_client client)
  history_of_stored world key kept is = found_of_stored (client_at world key) kept is
