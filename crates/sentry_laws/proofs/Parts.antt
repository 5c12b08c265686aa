-- What sending and the ends of sessions keep of a world: each part that has neither clients nor sessions, nor the reports
-- of books.
use Rattle.std.proofs.Common.{◌≡◌, refl, ◌∙◌, ℕ, List, [], ◌∷◌, Bool, true, false}
use Rattle.std.specs.Prelude.{Option, Some, None, if◌then◌else◌}
use Rattle.sentry_plain.specs.Tables.{replace_at, without}
use Rattle.sentry_base.specs.declared.protocol.envelope.Envelope.{Envelope}
use Rattle.sentry_base.specs.declared.protocol.keys.ClientKey.{ClientKey}
use Rattle.sentry_base.specs.declared.protocol.keys.Label.{Label}
use Rattle.sentry_base.specs.declared.protocol.keys.SessionKey.{SessionKey}
use Rattle.sentry_base.specs.declared.protocol.log.Log.{Log}
use Rattle.sentry_base.specs.declared.protocol.metric.Metric.{Metric}
use Rattle.sentry_base.specs.declared.protocol.session.SessionStatus.{SessionStatus}
use Rattle.sentry_base.specs.declared.protocol.session.SessionUpdate.{SessionUpdate}
use Rattle.sentry_client_reports.specs.LossBooks.{report_point}
use Rattle.sentry_hub_table.specs.declared.hub.HubState.{HubState}
use Rattle.sentry_telemetry.specs.declared.flushes.Flush.{Flush}
use Rattle.sentry_telemetry.specs.Flushes.{flush_queues, flushed_envelopes, after_flush, batch_envelopes}
use Rattle.sentry_telemetry.specs.Telemetry.{accept_log, accept_metric}
use Rattle.sentry_batches.specs.Batches.{accept, batch_on}
use Rattle.sentry_sending.specs.Sending.{Sending, send, send_nothing, send_some, after_sending, is_session_named, queue_update, end_session, end_unnamed_session, release_session}
use Rattle.sentry_sessions.specs.SessionQueues.{enqueued, envelopes_on}
use Rattle.sentry_sessions.specs.Sessions.{closed, session_of, pending_update}
use Rattle.sentry_state.specs.Books.{with_entry}
use Rattle.sentry_state.specs.Changes.{with_client_history, with_client_entry, with_log_entry, with_metric_entry}
use Rattle.sentry_hub_table.specs.Hubs.{with_session}
use Rattle.sentry_state.specs.Outcomes.{client_at, session_at}
use Rattle.sentry_state.specs.Worlds.{World, ClientHistory, SessionHistory}

module _ {P C X : Type 0} (part : World P C → X) (no_reports : (world : World P C) (label : Label)
    → part (with_entry world label report_point) ≡ part world)
    (no_clients : (world : World P C) (clients : List (ℕ × ClientHistory C)) → part (record world { clients = clients })
    ≡ part world) where
  pub after_part : (label : Label) (sent : List (ClientKey × Envelope)) (world : World P C)
      → part (after_sending label sent world) ≡ part world
  after_part label [] world = refl
  after_part label (first ∷ rest) world = no_reports world label

  some_part : {T : Type 0} (world : World P C) (o : Option T) (go : T → Sending P C)
      → ((x : T) → part (go x).after ≡ part world) → part (send_some world o go).after ≡ part world
  some_part world None go h = refl
  some_part world (Some x) go h = h x

  unless_part : (world : World P C) (b : Bool) (go : Sending P C) → part go.after ≡ part world
      → part (if b then send_nothing world else go).after ≡ part world
  unless_part world true go h = refl
  unless_part world false go h = h

  sent_part : (world : World P C) (key : ClientKey) (client new : ClientHistory C) (envelopes : List Envelope)
      → part (send key client envelopes (with_client_history world key new)).after ≡ part world
  sent_part world key client new envelopes =
      let changed = with_client_history world key new in
      after_part client.label (send key client envelopes changed).sent changed ∙ no_clients world
      (replace_at world.clients key.number new)

  pub flush_part : (flush : Flush) (key : ClientKey) (world : World P C) → part (flush_queues flush key world).after
      ≡ part world
  unfolding flush_queues
  flush_part flush key world =
      some_part world (client_at world key) _ (λ client. unless_part world client.closed _
      (sent_part world key client (after_flush flush client)
      (flushed_envelopes flush client.options.plain client.queues)))

  pub log_part : (key : ClientKey) (log : Log) (world : World P C) → part (accept_log key log world).after ≡ part world
  unfolding accept_log
  log_part key log world =
      some_part world (client_at world key) _ (λ client. unless_part world client.closed _
      (sent_part world key client (with_log_entry (accept log) client)
      (batch_envelopes (batch_on client.options.plain.max_batch_items (accept log) client.queues.logs) None)))

  pub metric_part : (key : ClientKey) (metric : Metric) (world : World P C)
      → part (accept_metric key metric world).after ≡ part world
  unfolding accept_metric
  metric_part key metric world =
      some_part world (client_at world key) _ (λ client. unless_part world client.closed _
      (sent_part world key client (with_metric_entry (accept metric) client)
      (batch_envelopes None (batch_on client.options.plain.max_batch_items (accept metric) client.queues.metrics))))

  pub queue_update_part : (key : ClientKey) (update : SessionUpdate) (world : World P C)
      → part (queue_update key update world).after ≡ part world
  unfolding queue_update
  queue_update_part key update world =
      some_part world (client_at world key) _ (λ client. unless_part world client.closed _
      (sent_part world key client (with_client_entry (enqueued update) client)
      (envelopes_on client.options.plain.session_mode update client.queues.sessions)))

  module _ (no_sessions : (world : World P C) (sessions : List (ℕ × SessionHistory))
      → part (record world { sessions = sessions }) ≡ part world) where
    pub end_part : (key : SessionKey) (status : Option SessionStatus) (now : ℕ) (world : World P C)
        → part (end_session key status now world).after ≡ part world
    unfolding end_session
    end_part key status now world =
        some_part world (session_at world key) _ (λ session.
        let queued = send_some world (pending_update (session_of session.start (closed status now ∷ session.history)))
        (λ update. queue_update session.start.client update world) in
        no_sessions queued.after (without queued.after.sessions key.number)
        ∙ some_part world (pending_update (session_of session.start (closed status now ∷ session.history))) _
        (λ update. queue_update_part session.start.client update world))

    end_unnamed_part : (name : Option SessionKey) (now : ℕ) (world : World P C)
        → part (end_unnamed_session name now world).after ≡ part world
    unfolding end_unnamed_session
    end_unnamed_part name now world =
        some_part world name _ (λ key. unless_part world (is_session_named key world.hubs) _
        (end_part key None now world))

    pub release_part : (number : ℕ) (hub : HubState P) (now : ℕ) (world : World P C)
        → part (release_session number hub now world).after ≡ part
        (record world { hubs = replace_at world.hubs number (with_session hub None) })
    release_part number hub now world =
        end_unnamed_part hub.stack.top.session now
        (record world { hubs = replace_at world.hubs number (with_session hub None) })
