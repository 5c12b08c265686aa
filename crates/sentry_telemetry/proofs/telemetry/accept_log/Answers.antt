use Rattle.std.proofs.Common.{◌≡◌, ◌∙◌, ◌++◌, ap, sym, true, false, rules, refl, List}
use Rattle.std.proofs.lemmas.Bool.{and_parts}
use Rattle.std.specs.Prelude.{Option, None, ◌&&◌}
use Rattle.sentry_base.specs.declared.protocol.log.Log.{Log}
use Rattle.sentry_batches.specs.Batches.{accept, batch_on, next_fills_queue, queued_items}
use Rattle.sentry_state.specs.Books.{pending_report}
use Rattle.sentry_telemetry.specs.Flushes.{batch_envelopes}
use Rattle.sentry_sending.specs.Sending.{for_client}
use Rattle.sentry_telemetry.specs.Telemetry.{accept_log}
use Rattle.sentry_state.specs.Changes.{with_log_entry}
use Rattle.sentry_state.specs.Worlds.{ClientHistory}
use Rattle.sentry_state.specs.declared.state.ClientState.{ClientState}
use Rattle.sentry_telemetry.proofs.BatchSending.{unsent_item}
use Rattle.sentry_telemetry.proofs.ChangeLemmas.{client_changed, client_changed_unsent, sent_if_occupied}
use Rattle.sentry_telemetry.proofs.telemetry.accept_log.Goals as goal

-- the slot is empty, or the log doesn't make the batch full
pub returns-then-not-next_log_fills_queue-clause-in_world : goal.returns-then-not-next_log_fills_queue-clause-in_world
unfolding accept_log
returns-then-not-next_log_fills_queue-clause-in_world g c = λ world s.
    let stays : (c.in-Some.client.now.occupied && next_fills_queue c.in-Some.client.now.queues.logs) ≡ false = search rules in
    client_changed_unsent c.args.key
    (λ (client : ClientHistory g.row.C.Denot). batch_envelopes (batch_on client.options.plain.max_batch_items (accept c.args.log) client.queues.logs) None)
    (with_log_entry (accept c.args.log)) c.args.state.now c.enqueue_log.new.self world s c.in-Some.client.now
    (c.in-Some.ensures.in_world world s) c.if-client.false c.new-then-not-next_log_fills_queue.result c.new-then-not-next_log_fills_queue.ensures (λ client there is. (
      unsent_item c.args.key c.in-Some.client.now.occupied (pending_report world c.in-Some.client.now.label)
          (λ (logs : Option (List Log)). batch_envelopes logs None) refl client.options.plain.max_batch_items
          (queued_items client.options.plain.max_batch_items client.queues.logs) c.args.log
          (ap (λ (kept : ClientState g.row.C.Denot). c.in-Some.client.now.occupied && next_fills_queue kept.queues.logs) (sym is) ∙ stays),
      c.in_ok-enqueue_log.ensures.in_world world client s there,
    ))

-- the log that makes the batch of an occupied slot full
pub returns-clause-in_world : goal.returns-clause-in_world
unfolding accept_log
returns-clause-in_world g c = λ world s.
    let leaves : (c.in-Some.client.now.occupied && next_fills_queue c.in-Some.client.now.queues.logs) ≡ true = search rules in
    client_changed c.args.key
    (λ (client : ClientHistory g.row.C.Denot). batch_envelopes (batch_on client.options.plain.max_batch_items (accept c.args.log) client.queues.logs) None)
    (with_log_entry (accept c.args.log)) c.args.state.now c.mark_sent.new.state world s c.in-Some.client.now
    (c.in-Some.ensures.in_world world s) c.if-client.false c.finish-sent.result (λ client there is.
    let pending = pending_report world c.in-Some.client.now.label in
    let batch = c.in_ok-logs.ensures.batch client there in
    let addressed = c.in_ok-prepared.ensures.sent world s (batch_envelopes c.in_ok-logs.logs None) in
    let stands = c.in_ok-logs.ensures.in_world world client s there in (
      sent_if_occupied c.args.key c.in-Some.client.now.occupied pending _ _ (and_parts _ _ leaves).0
          (c.finish-sent.ensures ∙ (addressed ∙ (λ i. for_client c.args.key pending (c.new-2.ensures i ++ batch_envelopes (batch i) None)))),
      c.mark_sent.ensures.in_world _ stands,
    ))
