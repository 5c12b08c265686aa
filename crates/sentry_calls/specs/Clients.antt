-- What the calls on clients answer, hand out and leave.
use Rattle.std.specs.Prelude.{ℕ, nat_lt, ◌-◌, Bool, not, Option, None, List, [], ◌∷◌, ◌+◌, ◌^◌, ◌==◌, if◌then◌else◌}
use Rattle.std.specs.Option.{option_map, option_and_then}
use Rattle.sentry_plain.specs.Tables.{put, without}
use Rattle.sentry_texts.specs.DsnParts.{DsnParts}
use Rattle.sentry_base.specs.declared.protocol.keys.ClientKey.{ClientKey}
use Rattle.sentry_base.specs.declared.protocol.keys.Label.{Label}
use Rattle.sentry_base.specs.declared.protocol.refusal.Refusal.TheVariants.{Stale, StillNamed, ForeignLosses, Full}
use Rattle.sentry_options.specs.declared.clientoptions.ClientOptions.{ClientOptions}
use Rattle.sentry_base.specs.Callbacks.{Partial}
use Rattle.sentry_options.specs.Meanings.{Meanings}
use Rattle.sentry_base.specs.declared.protocol.event.Event.{Event}
use Rattle.sentry_base.specs.declared.protocol.envelope.Envelope.{Envelope}
use Rattle.sentry_base.specs.declared.protocol.fresh.Fresh.{Fresh}
use Rattle.sentry_scope.specs.declared.scope.Scope.{Scope}
use Rattle.sentry_client_reports.specs.LossBooks.{report_point}
use Rattle.sentry_pipeline.specs.Pipeline.{loss_reason}
use Rattle.sentry_pipeline.specs.Pipeline as pipeline
use Rattle.sentry_state.specs.Books.{with_book, without_unused_book, pending_report, with_entry, with_entry_if_any}
use Rattle.sentry_base.specs.Envelopes.{with_report}
use Rattle.sentry_events.specs.Captures.{event_loss, event_to_send, capture, captured_id, captured_envelopes, attachments_of}
use Rattle.sentry_telemetry.specs.declared.flushes.Flush.TheVariants.{All, Due, Closing}
use Rattle.sentry_telemetry.specs.Flushes.{flush_queues}
use Rattle.sentry_sending.specs.Sending.{reply_sending}
use Rattle.sentry_span_table.specs.SpanTables.{has_transaction_of, is_held}
use Rattle.sentry_state.specs.Worlds.{World, span_table}
use Rattle.sentry_state.specs.Outcomes.{Outcome, require_some, require, reply_with, client_at, stored_client_at}
use Rattle.sentry_state.specs.Clients.{is_enabled_client, is_client_named, has_session_of, new_client, clone_from}

-- what the scope names as active is held, where there is a scope
abbrev pub holds_active_span : {P C : Type 0} → World P C → Option (Scope P) → Bool
holds_active_span world scope = is_held (span_table world) (option_and_then (λ held. held.span) scope)

module _ {P C : Type 0} where
  -- a client, under the next number, and a book for its label
  unfoldable pub add_client : (C → Meanings) → ClientOptions C → Bool → Label → ℕ → World P C
      → Outcome P C ClientKey
  add_client meanings options transport label now world =
      require ForeignLosses world (label.tag == world.tag)
      (require Full world (nat_lt world.next.client (2 ^ 64 - 1))
      (reply_with (record { tag = world.tag; number = world.next.client }) [] (record world {
        next = record world.next { client = world.next.client + 1 };
        clients = put world.clients world.next.client (new_client meanings options transport label now);
        books = with_book world.books label.number;
      })))

  -- the options of a client
  unfoldable pub options : ClientKey → World P C → Outcome P C (ClientOptions C)
  options key world =
      require_some Stale world (stored_client_at world key) (λ client. reply_with client.options [] world)

  -- where a client sends to
  unfoldable pub dsn : ClientKey → World P C → Outcome P C (Option DsnParts)
  dsn key world =
      require_some Stale world (stored_client_at world key) (λ client. reply_with client.options.plain.dsn [] world)

  -- whether a client is enabled
  unfoldable pub is_enabled : ClientKey → World P C → Outcome P C Bool
  is_enabled key world =
      require_some Stale world (stored_client_at world key) (λ client.
      reply_with (is_enabled_client client) [] world)

  -- what has this draw is sent where the draw lies below the rate
  unfoldable pub sample_should_send : ℕ → ℕ → World P C → Outcome P C Bool
  sample_should_send rate draw world = reply_with (nat_lt draw rate) [] world

  -- an event of a client, under a scope, if there is one
  unfoldable pub client_capture_event : (P → Partial) → (C → Meanings) → ClientKey → Event → Option (Scope P) → Fresh
      → World P C → Outcome P C (List ℕ)
  client_capture_event gives meanings key event scope fresh world =
      require_some Stale world (stored_client_at world key) (λ client.
      require Stale world (holds_active_span world scope)
      (let made = capture gives meanings (span_table world) client scope fresh event in
      reply_with (captured_id made.event)
      (captured_envelopes key None (attachments_of scope) (pending_report world client.label) made.event)
      (with_entry_if_any world client.label made.entry)))

  -- the event as the client would send it, if it would; where it would not, the event is lost
  unfoldable pub prepare_event : (P → Partial) → (C → Meanings) → ClientKey → Event → Option (Scope P) → Fresh
      → World P C → Outcome P C (Option Event)
  prepare_event gives meanings key event scope fresh world =
      require_some Stale world (stored_client_at world key) (λ client.
      require Stale world (holds_active_span world scope)
      (let prepared = pipeline.prepare_event gives meanings (span_table world) client.options client.sdk scope fresh event in
      reply_with (event_to_send prepared.preparation prepared.event) []
      (with_entry_if_any world client.label (option_map event_loss (loss_reason prepared.preparation)))))

  -- an envelope of a client, with the pending report as its last item; on an empty slot nothing is sent
  unfoldable pub send_envelope : ClientKey → Envelope → World P C → Outcome P C (Unit {0})
  send_envelope key envelope world =
      require_some Stale world (stored_client_at world key) (λ client.
      if client.occupied
      then reply_with tt ((key, with_report (pending_report world client.label) envelope) ∷ [])
      (with_entry world client.label report_point)
      else reply_with tt [] world)

  -- what waits in the queues of a client
  unfoldable pub flush : ClientKey → World P C → Outcome P C (Unit {0})
  flush key world =
      require_some Stale world (stored_client_at world key) (λ client. reply_sending tt (flush_queues All key world))

  -- what waits in those queues of a client whose last due tick lies their interval or more before this moment
  unfoldable pub tick : ClientKey → ℕ → World P C → Outcome P C (Unit {0})
  tick key now world =
      require_some Stale world (stored_client_at world key) (λ client.
      reply_sending tt (flush_queues (Due now) key world))

  -- what waits in the queues of a client, to which nothing comes any more; its slot is empty from then on
  unfoldable pub close : ClientKey → World P C → Outcome P C (Unit {0})
  close key world =
      require_some Stale world (stored_client_at world key) (λ client. reply_sending tt (flush_queues Closing key world))

  -- a client with the options, the label and the slot of another, under the next number
  unfoldable pub clone_client : ClientKey → ℕ → World P C → Outcome P C ClientKey
  clone_client key now world =
      require_some Stale world (client_at world key) (λ client.
      require Full world (nat_lt world.next.client (2 ^ 64 - 1))
      (reply_with (record { tag = world.tag; number = world.next.client }) [] (record world {
        next = record world.next { client = world.next.client + 1 };
        clients = put world.clients world.next.client (clone_from now client);
      })))

  -- a client that no layer, no session and no unfinished transaction names sends what waits in its queues, and is no
  -- longer held; the losses of its label are forgotten with the last client of it
  unfoldable pub drop_client : ClientKey → World P C → Outcome P C (Unit {0})
  drop_client key world =
      require_some Stale world (stored_client_at world key) (λ client.
      require StillNamed world (not (is_client_named key world.hubs))
      (require StillNamed world (not (has_session_of key world.sessions))
      (require StillNamed world (not (has_transaction_of (span_table world) key))
      (let flushed = flush_queues All key world in
      reply_with tt flushed.sent (without_unused_book client.label
      (record flushed.after { clients = without flushed.after.clients key.number }))))))
