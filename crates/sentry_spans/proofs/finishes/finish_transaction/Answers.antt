use Rattle.std.proofs.Common.{◌≡◌, ◌∙◌, [], ◌∷◌, ap, sym, subst, true}
use Rattle.std.specs.Prelude.{List}
use Rattle.sentry_base.specs.declared.protocol.envelope.Envelope.{Envelope}
use Rattle.sentry_base.specs.declared.protocol.keys.ClientKey.{ClientKey}
use Rattle.sentry_sending.specs.Sending.{after_sending, for_client}
use Rattle.sentry_span_table.specs.declared.table.records.TracingState.TheVariants.{Enabled}
use Rattle.sentry_spans.specs.Prepared.{prepared_envelope}
use Rattle.sentry_base.specs.declared.protocol.transaction.Transaction.{Transaction}
use Rattle.sentry_spans.specs.Spans.{finish_transaction, sent_transaction, transaction_envelope}
use Rattle.sentry_spans.proofs.SendLemmas.{finish_is, finished_envelope, handed_out, left_is, replied}
use Rattle.sentry_spans.proofs.finishes.finish_transaction.Goals as goal
use Rattle.sentry_state.specs.Books.{pending_report}
use Rattle.sentry_state.specs.SpanChanges.{with_transaction_finished}
use Rattle.sentry_state.specs.Worlds.{Stands}

-- it was found unfinished
pub unreachable-requires : goal.unreachable-requires
unreachable-requires g c =
    let held = c.in-Some.held.now in
    let unfinished = c.in-Some-unfinished.unfinished in
    let handed = c.close_transaction-in-Enabled-true-default.ensures.kept held (sym c.in-Some.ensures.in_table) in
    c.in_default-close_transaction.not-Some (record unfinished.transaction { spans = held.spans })
    (handed ∙ left_is held unfinished c.in-Some-unfinished.is)

-- it is sent, with the spans that it kept
pub returns-in-Some-close_transaction : goal.returns-in-Some-close_transaction
returns-in-Some-close_transaction g c = λ world s.
    let held = c.in-Some.held.now in
    let hub = c.in-Some-hub_at.under.now in
    let unfinished = c.in-Some-unfinished.unfinished in
    let client = c.in-Some-client_at.client.now in
    let rate = (c.in-Enabled-true-default).rate in
    let prepared = (c.in_ok-prepared-in-Enabled-true-default).prepared in
    let enabled = (c.in-Enabled-true-default).is in
    let sampled = (c.in-Enabled-true-default).sampled-is in
    let tested = (c.in-Enabled-true-default).sampled-test in
    let traced : held.tracing ≡ Enabled true rate = enabled ∙ ap (λ b. Enabled b rate) (sym sampled ∙ tested) in
    let free = c.if-not-client.false in
    let occupied : client.occupied ≡ true = cc in
    let report = pending_report world client.label in
    let envelope = finished_envelope held hub unfinished rate c.args.moment client in
    let is = finish_is c.args.key c.args.hub c.args.moment world held hub unfinished rate client
    (sym (c.in-Some.ensures.in_world world s)) (sym (c.in-Some-hub_at.ensures.in_world world s)) c.in-Some-unfinished.is traced
    (sym (c.in-Some-client_at.ensures.in_world world s)) occupied in
    let found = rw traced at ((c.in_ok-prepared-in-Enabled-true-default).ensures.envelope held.spans c.args.moment) in
    let made = subst (λ (transaction : Transaction).
    prepared_envelope prepared c.args.moment (record transaction { spans = held.spans })
    ≡ transaction_envelope client.options held.context rate
    (sent_transaction client hub.stack.top.scope held.context held.spans c.args.moment transaction))
    c.get-transaction.ensures found in
    let handed = handed_out held unfinished c.in-Some-close_transaction.transaction c.in-Some-unfinished.is
    (c.in-Some-close_transaction.ensures.kept held (sym c.in-Some.ensures.in_table)) in
    let reported = (c.in_ok-prepared-in-Enabled-true-default).ensures.report world s in
    let same : c.send_prepared-sent.result ≡ for_client unfinished.client report (envelope ∷ []) =
    c.send_prepared-sent.ensures
    ∙ (λ i. for_client unfinished.client (reported i) (prepared_envelope prepared c.args.moment (handed i) ∷ []))
    ∙ ap (λ e. for_client unfinished.client report (e ∷ []))
    made in
    let closed = c.in-Some-close_transaction.ensures.in_world world s in
    let marked = c.mark_sent.ensures.in_world (with_transaction_finished c.args.key world) closed in
    replied (finish_transaction c.args.key c.args.hub c.args.moment world) tt
    (for_client unfinished.client report (envelope ∷ [])) c.send_prepared-sent.result
    (after_sending client.label (for_client unfinished.client report (envelope ∷ [])) (with_transaction_finished c.args.key world))
    c.mark_sent.new.state is same
    (subst (λ (sent : List (ClientKey × Envelope)).
    Stands c.mark_sent.new.state (after_sending client.label sent (with_transaction_finished c.args.key world))) same marked)
