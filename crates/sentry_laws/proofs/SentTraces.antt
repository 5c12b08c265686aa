-- Each span of a transaction that is sent is in the trace that its envelope names.
use Rattle.std.proofs.Common.{◌≡◌, refl, ap, ◌∙◌, sym, subst, ℕ, List, [], ◌∷◌, ◌++◌, Bool, true, false}
use Rattle.std.specs.Prelude.{Option, Some, None, Result, Ok, Err}
use Rattle.std.specs.List.{AllByRecursion}
use Rattle.std.specs.Option.{option_and_then}
use Rattle.sentry_base.specs.Callbacks.{Partial}
use Rattle.sentry_base.specs.Envelopes.{with_report}
use Rattle.sentry_base.specs.declared.protocol.client_report.ClientReport.{ClientReport}
use Rattle.sentry_base.specs.declared.protocol.envelope.DynamicSamplingContext.{DynamicSamplingContext}
use Rattle.sentry_base.specs.declared.protocol.envelope.Envelope.{Envelope}
use Rattle.sentry_base.specs.declared.protocol.envelope.EnvelopeHeaders.{EnvelopeHeaders}
use Rattle.sentry_base.specs.declared.protocol.envelope.EnvelopeItem.{EnvelopeItem}
use Rattle.sentry_base.specs.declared.protocol.envelope.EnvelopeItem.TheVariants as item
use Rattle.sentry_base.specs.declared.protocol.keys.ClientKey.{ClientKey}
use Rattle.sentry_base.specs.declared.protocol.log.Log.{Log}
use Rattle.sentry_base.specs.declared.protocol.metric.Metric.{Metric}
use Rattle.sentry_base.specs.declared.protocol.refusal.Refusal.{Refusal}
use Rattle.sentry_base.specs.declared.protocol.transaction.Transaction.{Transaction}
use Rattle.sentry_options.specs.Meanings.{Meanings}
use Rattle.sentry_batches.specs.Batches.{accept, batch_on}
use Rattle.sentry_sending.specs.Sending.{for_client, envelopes_from}
use Rattle.sentry_telemetry.specs.Flushes.{batch_envelopes, is_flushed, flushed_logs, flushed_metrics}
use Rattle.sentry_telemetry.specs.declared.flushes.TheConstants.{SESSION_INTERVAL}
use Rattle.sentry_state.specs.declared.state.Out.{Out}
use Rattle.sentry_state.specs.Books.{pending_report}
use Rattle.sentry_state.specs.Worlds.{World, ClientHistory, starting_world}
use Rattle.sentry_calls.specs.declared.call.Call.{Call}
use Rattle.sentry_calls.specs.declared.call.Reply.{Reply}
use Rattle.sentry_calls.specs.Runs.{Run}
use Rattle.sentry_laws.specs.SentItems.{handed_in, batches_among}
use Rattle.sentry_laws.specs.Traces.{ItemIsInTrace, EnvelopeIsInTrace, AreInTrace, SentSpansAreInTrace}
use Rattle.sentry_laws.proofs.Effects.{Effect}
use Rattle.sentry_laws.proofs.Changes.{Change, Changes, nothing, one, both, AreOfTransactions, Arrival, log_came, metric_came, session_ended, flush_came, envelopes_on_arrival, arrives, accepts, mails}
use Rattle.sentry_laws.proofs.Keeping.{trail_of}
use Rattle.sentry_laws.proofs.SentBatches.{all_batches}
use Rattle.sentry_laws.proofs.SentKinds.{session_none, flushed_none}
use Rattle.sentry_laws.proofs.Traces.{AreIn, IsTraced, in_kept, traced_change, none_traced}

-- ---- envelopes from queues have no transaction

abbrev transaction_in : EnvelopeItem → Option (List Transaction)
transaction_in (item.Transaction transaction) = Some (transaction ∷ [])
transaction_in _ = None

none_first : {X : Type 0} (xs ys : List X) → xs ++ ys ≡ [] → xs ≡ []
none_first [] ys h = refl
none_first (x ∷ xs) ys h = absurd cc

none_second : {X : Type 0} (xs ys : List X) → xs ++ ys ≡ [] → ys ≡ []
none_second [] ys h = h
none_second (x ∷ xs) ys h = absurd cc

without_transaction : (header : EnvelopeHeaders) (items : List EnvelopeItem) → batches_among transaction_in items ≡ []
    → AllByRecursion (ItemIsInTrace header) items
without_transaction header [] h = tt
without_transaction header (item.Transaction transaction ∷ rest) h = absurd cc
without_transaction header (_ ∷ rest) h = (tt, without_transaction header rest h)

all_without_transaction : (envelopes : List Envelope) → all_batches transaction_in envelopes ≡ []
    → AllByRecursion EnvelopeIsInTrace envelopes
all_without_transaction [] h = tt
all_without_transaction (first ∷ rest) h = (
  without_transaction first.header first.items
      (none_first (batches_among transaction_in first.items) (all_batches transaction_in rest) h),
  all_without_transaction rest
      (none_second (batches_among transaction_in first.items) (all_batches transaction_in rest) h),
)

batches_without : (logs : Option (List Log)) (metrics : Option (List Metric))
    → all_batches transaction_in (batch_envelopes logs metrics) ≡ []
batches_without None None = refl
batches_without None (Some metrics) = refl
batches_without (Some logs) None = refl
batches_without (Some logs) (Some metrics) = refl

module _ {C : Type 0} where
  arrival_without : (arrival : Arrival) (client : ClientHistory C)
      → all_batches transaction_in (envelopes_on_arrival arrival client) ≡ []
  arrival_without (log_came log) client =
      batches_without (batch_on client.options.plain.max_batch_items (accept log) client.queues.logs) None
  arrival_without (metric_came metric) client =
      batches_without None (batch_on client.options.plain.max_batch_items (accept metric) client.queues.metrics)
  arrival_without (session_ended update) client =
      session_none transaction_in (λ u. refl) (λ a. refl)
      client.options.plain.session_mode update client.queues.sessions
  arrival_without (flush_came flush) client =
      let limit = client.options.plain.max_batch_items in
      flushed_none transaction_in (λ u. refl) (λ a. refl)
      (is_flushed flush SESSION_INTERVAL client.queues.session_tick) client.options.plain.session_mode
      client.queues.sessions
      (batch_envelopes (flushed_logs limit flush client.queues) (flushed_metrics limit flush client.queues))
      ∙ batches_without (flushed_logs limit flush client.queues) (flushed_metrics limit flush client.queues)

-- ---- envelopes that leave

one_more : (header : EnvelopeHeaders) (items : List EnvelopeItem) (report : ClientReport)
    → AllByRecursion (ItemIsInTrace header) items
    → AllByRecursion (ItemIsInTrace header) (items ++ item.ClientReport report ∷ [])
one_more header [] report h = (tt, tt)
one_more header (first ∷ rest) report h = (h.0, one_more header rest report h.1)

-- of a header, its trace alone counts
same_trace : (header other : EnvelopeHeaders) → other.trace ≡ header.trace → (items : List EnvelopeItem)
    → AllByRecursion (ItemIsInTrace header) items → AllByRecursion (ItemIsInTrace other) items
same_trace header other same [] h = tt
same_trace header other same (item.Transaction transaction ∷ rest) h = (
  (h.0.0, ap (λ trace. option_and_then (λ (t : DynamicSamplingContext). t.trace_id) trace) same ∙ h.0.1, h.0.2),
  same_trace header other same rest h.1,
)
same_trace header other same (_ ∷ rest) h = (tt, same_trace header other same rest h.1)

reported : (report : Option ClientReport) (envelope : Envelope) → EnvelopeIsInTrace envelope
    → EnvelopeIsInTrace (with_report report envelope)
reported None envelope h = h
reported (Some report) envelope h =
    same_trace envelope.header (with_report (Some report) envelope).header refl
    (envelope.items ++ item.ClientReport report ∷ []) (one_more envelope.header envelope.items report h)

leaving : (key : ClientKey) (report : Option ClientReport) (envelopes : List Envelope)
    → AllByRecursion EnvelopeIsInTrace envelopes → AreInTrace None (for_client key report envelopes)
leaving key report [] h = tt
leaving key report (first ∷ rest) h = (reported report first h.0, leaving key None rest h.1)

from_slot : (occupied : Bool) (key : ClientKey) (report : Option ClientReport) (envelopes : List Envelope)
    → AllByRecursion EnvelopeIsInTrace envelopes → AreInTrace None (envelopes_from occupied key report envelopes)
from_slot true key report envelopes h = leaving key report envelopes h
from_slot false key report envelopes h = tt

joined : (f : Option Envelope) (sent more : List (ClientKey × Envelope)) → AreInTrace f sent → AreInTrace f more
    → AreInTrace f (sent ++ more)
joined (Some given) sent more h k = tt
joined None [] more h k = k
joined None (first ∷ rest) more h k = (h.0, joined None rest more h.1 k)

none_sent : (f : Option Envelope) → AreInTrace f []
none_sent (Some given) = tt
none_sent None = tt

unless_given : (f : Option Envelope) (sent : List (ClientKey × Envelope)) → (f ≡ None → AreInTrace None sent)
    → AreInTrace f sent
unless_given (Some given) sent h = tt
unless_given None sent h = h refl

-- ---- changes

module _ {P C : Type 0} where
  -- the spans that a transaction kept are in its trace
  in_one_trace : (world : World P C) (header : EnvelopeHeaders) (items : List EnvelopeItem) → IsTraced world
      → AreOfTransactions world header items → AllByRecursion (ItemIsInTrace header) items
  in_one_trace world header [] t h = tt
  in_one_trace world header (item.Transaction transaction ∷ rest) t h =
      let number = h.0.0 in
      let state = h.0.1 in (
        (
          state.context.trace_id,
          h.0.3,
          subst (AreIn state.context.trace_id) (sym h.0.4)
              (in_kept state.context.trace_id state.tracing state.max_spans state.finished (t.kept number state h.0.2)),
        ),
        in_one_trace world header rest t h.1,
      )
  in_one_trace world header (_ ∷ rest) t h = (tt, in_one_trace world header rest t h.1)

module _ {P C : Type 0} (meanings : C → Meanings) where
  sent_by_change : (f : Option Envelope) {old new : World P C} {some : List (Effect P C)} {sent : List
      (ClientKey × Envelope)} → Change meanings f old some sent new → IsTraced old → AreInTrace f sent
  sent_by_change f (arrives world key client arrival is_off found open_ came) t =
      unless_given f _ (λ none. from_slot client.occupied key (pending_report world client.label)
      (envelopes_on_arrival arrival client)
      (all_without_transaction (envelopes_on_arrival arrival client) (arrival_without arrival client)))
  sent_by_change f (accepts world key client arrival kind is_off found open_ came) t =
      unless_given f _ (λ none. from_slot client.occupied key (pending_report world client.label)
      (envelopes_on_arrival arrival client)
      (all_without_transaction (envelopes_on_arrival arrival client) (arrival_without arrival client)))
  sent_by_change f (mails world key client envelope found occupied plain told_) t =
      unless_given f _ (λ none. (
        reported (pending_report world client.label) envelope
            (in_one_trace world envelope.header envelope.items t (told_ none).1),
        tt,
      ))
  sent_by_change f _ t = none_sent f

  traced_after : {f : Option Envelope} {old new : World P C} {some : List (Effect P C)} {sent : List
      (ClientKey × Envelope)} → Changes meanings f old some sent new → IsTraced old → IsTraced new
  traced_after (nothing world) t = t
  traced_after (one c) t = traced_change meanings c t
  traced_after (both c d) t = traced_after d (traced_after c t)

  sent_by_changes : (f : Option Envelope) {old new : World P C} {some : List (Effect P C)} {sent : List
      (ClientKey × Envelope)} → Changes meanings f old some sent new → IsTraced old → AreInTrace f sent
  sent_by_changes f (nothing world) t = none_sent f
  sent_by_changes f (one c) t = sent_by_change f c t
  sent_by_changes f (both {sent = sent} {more = more} c d) t =
      joined f sent more (sent_by_changes f c t) (sent_by_changes f d (traced_after c t))

-- ---- runs

module _ {P C : Type 0} (gives : P → Partial) (meanings : C → Meanings) where
  sent_by_run : (calls : List (Call P C)) (answers : List (Result (Out (Reply P C)) Refusal)) (world last : World P C)
      → Run gives meanings world calls answers last → IsTraced world → SentSpansAreInTrace calls answers
  sent_by_run [] answers world last run t = tt
  sent_by_run (call ∷ calls) [] world last run t = tt
  sent_by_run (call ∷ calls) (Err refusal ∷ answers) world last run t =
      sent_by_run calls answers run.0 last run.2 (subst IsTraced (sym run.1.1) t)
  sent_by_run (call ∷ calls) (Ok out ∷ answers) world last run t =
      let changes = (trail_of gives meanings call out world run.0 run.1).changes in (
        sent_by_changes meanings (handed_in call) changes t,
        sent_by_run calls answers run.0 last run.2 (traced_after meanings changes t),
      )

  pub sent_in_trace : (tag start : ℕ) (calls : List (Call P C)) (answers : List (Result (Out (Reply P C)) Refusal))
      (last : World P C) → Run gives meanings (starting_world tag start) calls answers last
      → SentSpansAreInTrace calls answers
  sent_in_trace tag start calls answers last run =
      sent_by_run calls answers (starting_world tag start) last run
      (none_traced gives meanings tag start)
