use Rattle.std.proofs.Common.{◌≡◌, ◌∙◌, ◌++◌, ◌==◌, ap, sym, true, false, rules, length}
use Rattle.sentry_state.specs.Books.{pending_report}
use Rattle.sentry_telemetry.specs.Flushes.{flush_queues, flushed_envelopes, after_flush, session_envelopes, batch_envelopes, is_flushed}
use Rattle.sentry_sending.specs.Sending.{for_client}
use Rattle.sentry_state.specs.Worlds.{ClientHistory}
use Rattle.sentry_state.specs.declared.state.ClientState.{ClientState}
use Rattle.sentry_telemetry.specs.declared.flushes.TheConstants.{SESSION_INTERVAL}
use Rattle.sentry_telemetry.proofs.BatchSending.{none_if_empty}
use Rattle.sentry_telemetry.proofs.ChangeLemmas.{client_changed, client_changed_unsent, sent_if_occupied, unsent_if_empty}
use Rattle.sentry_telemetry.proofs.flushes.flush_queues.Goals as goal

-- an empty slot drops what was flushed
pub returns-then-not-client-clause-in_world : goal.returns-then-not-client-clause-in_world
unfolding flush_queues
returns-then-not-client-clause-in_world g c = λ world s.
    let empty : c.in-Some.client.now.occupied ≡ false = search rules in
    client_changed_unsent c.args.key
    (λ (client : ClientHistory g.row.C.Denot). flushed_envelopes c.args.flush client.options.plain client.queues)
    (after_flush c.args.flush) c.args.state.now c.take_flushed.new.state world s c.in-Some.client.now
    (c.in-Some.ensures.in_world world s) c.if-client.false c.new-then-not-client.result c.new-then-not-client.ensures (λ client there is. (
      unsent_if_empty c.args.key c.in-Some.client.now.occupied (pending_report world c.in-Some.client.now.label) _ empty,
      c.take_flushed.ensures.in_world world client s there,
    ))

-- nothing is sent where nothing waits
pub returns-then-not-has_batch-clause-in_world : goal.returns-then-not-has_batch-clause-in_world
unfolding flush_queues
returns-then-not-has_batch-clause-in_world g c = λ world s.
    let occupied : c.in-Some.client.now.occupied ≡ true = search rules in
    let no_batch : c.has_batch.result ≡ false = search rules in
    let empty : (length c.in_ok-sessions.sessions == 0) ≡ true = search rules in
    client_changed_unsent c.args.key
    (λ (client : ClientHistory g.row.C.Denot). flushed_envelopes c.args.flush client.options.plain client.queues)
    (after_flush c.args.flush) c.args.state.now c.take_flushed-then-not-has_batch.new.state world s c.in-Some.client.now
    (c.in-Some.ensures.in_world world s) c.if-client.false c.new-then-not-has_batch.result c.new-then-not-has_batch.ensures (λ client there is.
    let sessions = sym (none_if_empty c.in_ok-sessions.sessions empty)
    ∙ (c.in_ok-sessions.ensures
    ∙ ap (λ (kept : ClientState g.row.C.Denot). session_envelopes (is_flushed c.args.flush SESSION_INTERVAL kept.queues.session_tick.0) kept.queues.sessions) is) in
    let queues = ap (λ (kept : ClientState g.row.C.Denot). kept.queues) is in
    let logs = sym (c.has_batch.ensures.logs client.options.plain client.queues c.args.flush queues no_batch) in
    let metrics = sym (c.has_batch.ensures.metrics client.options.plain client.queues c.args.flush queues no_batch) in
    let pending = pending_report world c.in-Some.client.now.label in (
      sent_if_occupied c.args.key c.in-Some.client.now.occupied pending _ _ occupied
          (λ i. for_client c.args.key pending (sessions i ++ batch_envelopes (logs i) (metrics i))),
      c.take_flushed-then-not-has_batch.ensures.in_world world client s there,
    ))

-- an occupied one sends it
pub returns-clause-in_world : goal.returns-clause-in_world
unfolding flush_queues
returns-clause-in_world g c = λ world s.
    let occupied : c.in-Some.client.now.occupied ≡ true = search rules in
    client_changed c.args.key
    (λ (client : ClientHistory g.row.C.Denot). flushed_envelopes c.args.flush client.options.plain client.queues)
    (after_flush c.args.flush) c.args.state.now c.mark_sent.new.state world s c.in-Some.client.now
    (c.in-Some.ensures.in_world world s) c.if-client.false c.finish-sent.result (λ client there is.
    let sessions = c.in_ok-sessions.ensures
    ∙ ap (λ (kept : ClientState g.row.C.Denot). session_envelopes (is_flushed c.args.flush SESSION_INTERVAL kept.queues.session_tick.0) kept.queues.sessions) is in
    let logs = c.take_flushed-batches.ensures.logs client there in
    let metrics = c.take_flushed-batches.ensures.metrics client there in
    let pending = pending_report world c.in-Some.client.now.label in
    let addressed = c.in_ok-prepared.ensures.sent world s (batch_envelopes c.take_flushed-batches.result.logs c.take_flushed-batches.result.metrics) in
    let stands = c.take_flushed-batches.ensures.in_world world client s there in (
      sent_if_occupied c.args.key c.in-Some.client.now.occupied pending _ _ occupied
          (c.finish-sent.ensures ∙ (addressed ∙ (λ i. for_client c.args.key pending (sessions i ++ batch_envelopes (logs i) (metrics i))))),
      c.mark_sent.ensures.in_world _ stands,
    ))
