-- A transaction that finishes is sent with its place in its trace, where the scope leaves that.
use Rattle.std.proofs.Common.{◌≡◌, refl, ap, ◌∙◌, subst, ℕ, List, [], ◌∷◌, Bool, true, false, cond}
use Rattle.std.specs.Prelude.{Option, Some, None, Result, Ok, Err, codes}
use Rattle.std.specs.BTreeMap.{is_at}
use Rattle.sentry_plain.specs.Texts.{Bytes, text_cmp, put, value_at, merge}
use Rattle.sentry_plain.proofs.MergeLemmas.{value_at-put, value_at-put-here}
use Rattle.sentry_base.specs.Callbacks.{Partial}
use Rattle.sentry_base.specs.declared.protocol.client_report.ClientReport.{ClientReport}
use Rattle.sentry_base.specs.declared.protocol.context.Context.TheVariants as context_of
use Rattle.sentry_base.specs.declared.protocol.context.TraceContext.{TraceContext}
use Rattle.sentry_base.specs.declared.protocol.keys.ClientKey.{ClientKey}
use Rattle.sentry_base.specs.declared.protocol.keys.HubKey.{HubKey}
use Rattle.sentry_base.specs.declared.protocol.keys.TransactionKey.{TransactionKey}
use Rattle.sentry_base.specs.declared.protocol.refusal.Refusal.{Refusal}
use Rattle.sentry_base.specs.declared.protocol.refusal.Refusal.TheVariants.{Stale}
use Rattle.sentry_base.specs.declared.protocol.transaction.Transaction.{Transaction}
use Rattle.sentry_options.specs.Meanings.{Meanings}
use Rattle.sentry_options.specs.declared.clientoptions.ClientOptions.{ClientOptions}
use Rattle.sentry_sending.specs.Sending.{envelopes_from}
use Rattle.sentry_span_table.specs.declared.table.records.TracingState.{TracingState}
use Rattle.sentry_span_table.specs.declared.table.records.TracingState.TheVariants.{Enabled, Disabled}
use Rattle.sentry_spans.specs.Spans.{finish_transaction, by_tracing, sent_transaction, transaction_envelope}
use Rattle.sentry_state.specs.declared.state.Out.{Out}
use Rattle.sentry_state.specs.Books.{pending_report}
use Rattle.sentry_state.specs.Outcomes.{Outcome, require_some, let_some, hub_at, stored_client_at, stored_transaction_at}
use Rattle.sentry_state.specs.Worlds.{World, starting_world}
use Rattle.sentry_calls.specs.Replies.{map_answer, map_reply}
use Rattle.sentry_calls.specs.Runs.{Run}
use Rattle.sentry_calls.specs.SpanCalls.{span_step}
use Rattle.sentry_calls.specs.Steps.{step}
use Rattle.sentry_calls.specs.declared.call.Call.{Call}
use Rattle.sentry_calls.specs.declared.call.Call.TheVariants as group
use Rattle.sentry_calls.specs.declared.call.Reply.{Reply}
use Rattle.sentry_calls.specs.declared.call.Reply.TheVariants as reply
use Rattle.sentry_calls.specs.declared.call.spans.records.SpanCall.{SpanCall}
use Rattle.sentry_calls.specs.declared.call.spans.records.SpanCall.TheVariants as on_span
use Rattle.sentry_calls.specs.declared.call.spans.records.SpanReply.TheVariants as span_reply
use Rattle.sentry_laws.specs.FinishedTraces.{HaveTrace, LeavesTrace, FinishesWithTrace, FirstHasTrace, FinishedHaveTrace}
use Rattle.sentry_laws.proofs.PartsOfRuns.{from_each_call}

-- ---- contexts

module _ {X : Type 0} where
  neither_here : (b : Bool) (x : X) (o : Option X) → cond b (Some x) o ≡ None → (b ≡ false) × (o ≡ None)
  neither_here true x o h = absurd cc
  neither_here false x o h = (refl, h)

  -- a map that has nothing at a key leaves what it is merged into there
  merged_elsewhere : (es m : List (Bytes × X)) (k : Bytes) → value_at es k ≡ None
      → value_at (merge es m) k ≡ value_at m k
  merged_elsewhere [] m k h = refl
  merged_elsewhere (e ∷ es) m k h =
      let left = neither_here (is_at (text_cmp k) e.0) e.1 (value_at es k) h in
      merged_elsewhere es (put m e.0 e.1) k left.1
      ∙ (value_at-put m e.0 e.1 k ∙ ap (λ b. cond b (Some e.1) (value_at m k)) left.0)

-- ---- what is handed out

-- the envelope of a transaction leaves, with a report or without one, or is dropped
leaves_slot : {C : Type 0} (occupied : Bool) (key : ClientKey) (report : Option ClientReport) (options : ClientOptions C)
    (context : TraceContext) (rate : ℕ) (transaction : Transaction)
    → value_at transaction.contexts (codes "trace") ≡ Some (context_of.Trace context)
    → HaveTrace (envelopes_from occupied key report (transaction_envelope options context rate transaction ∷ []))
leaves_slot true key None options context rate transaction h = (((context, h, refl), tt), tt)
leaves_slot true key (Some report) options context rate transaction h = (((context, h, refl), (tt, tt)), tt)
leaves_slot false key report options context rate transaction h = tt

abbrev AnswerHasTrace : {T : Type 0} → Result (Out T) Refusal → Type 0
AnswerHasTrace (Ok out) = HaveTrace out.sent
AnswerHasTrace (Err refusal) = Unit {0}

module _ {P C : Type 0} where
  record SendsTrace {T : Type 0} (outcome : Outcome P C T) : Type 0 where
    sends : AnswerHasTrace outcome.answer

module _ {P C T : Type 0} where
  sends_some : {X : Type 0} (refusal : Refusal) (world : World P C) (o : Option X) {go : X → Outcome P C T}
      → ((x : X) → o ≡ Some x → SendsTrace (go x)) → SendsTrace (require_some refusal world o go)
  sends_some refusal world None h = record { sends = tt }
  sends_some refusal world (Some x) h = h x refl

  sends_let : {X : Type 0} (o : Option X) {otherwise : Outcome P C T} {go : X → Outcome P C T} → SendsTrace otherwise
      → ((x : X) → SendsTrace (go x)) → SendsTrace (let_some o otherwise go)
  sends_let None h k = h
  sends_let (Some x) h k = k x

  sends_by_tracing : (tracing : TracingState) {untraced unsampled : Outcome P C T} {sampled : ℕ → Outcome P C T}
      → SendsTrace untraced → SendsTrace unsampled → ((rate : ℕ) → SendsTrace (sampled rate))
      → SendsTrace (by_tracing tracing untraced unsampled sampled)
  sends_by_tracing (Disabled decision) h k l = h
  sends_by_tracing (Enabled false rate) h k l = k
  sends_by_tracing (Enabled true rate) h k l = l rate

answer_mapped : {T U : Type 0} (f : T → U) (answer : Result (Out T) Refusal) → AnswerHasTrace answer
    → AnswerHasTrace (map_answer f answer)
answer_mapped f (Ok out) h = h
answer_mapped f (Err refusal) h = h

sends_mapped : {P C T U : Type 0} (f : T → U) (outcome : Outcome P C T) → SendsTrace outcome
    → SendsTrace (map_reply f outcome)
sends_mapped f outcome h = record { sends = answer_mapped f outcome.answer h.sends }

-- ---- calls

module _ {P C : Type 0} (world : World P C) where
  finishes : (key : TransactionKey) (hub_key : HubKey) (moment : ℕ) → LeavesTrace world hub_key
      → SendsTrace (finish_transaction key hub_key moment world)
  unfolding finish_transaction
  finishes key hub_key moment left =
      sends_some Stale world (stored_transaction_at world key) (λ held found.
      sends_some Stale world (hub_at world hub_key) (λ hub hub_found.
      sends_let held.unfinished (record { sends = tt }) (λ unfinished.
      sends_by_tracing held.tracing (record { sends = tt }) (record { sends = tt }) (λ rate.
      sends_let (stored_client_at world unfinished.client) (record { sends = tt }) (λ client.
      let own = put unfinished.transaction.contexts (codes "trace") (context_of.Trace held.context) in
      record {
        sends = leaves_slot client.occupied unfinished.client (pending_report world client.label) client.options held.context rate
            (sent_transaction client hub.stack.top.scope held.context held.spans moment unfinished.transaction)
            (merged_elsewhere hub.stack.top.scope.contexts own (codes "trace") (left hub hub_found)
            ∙ value_at-put-here unfinished.transaction.contexts (codes "trace") (context_of.Trace held.context));
      })))))

module _ {P C : Type 0} (gives : P → Partial) (meanings : C → Meanings) where
  span_call : (call : SpanCall) (world : World P C) (out : Out (Reply P C))
      → (step gives meanings (group.Span call) world).answer ≡ Ok out
      → FinishesWithTrace world (group.Span call) out.sent
  unfolding span_step
  span_call (on_span.FinishTransaction transaction hub moment) world out is = λ left.
      subst (λ (answer : Result (Out (Reply P C)) Refusal). AnswerHasTrace answer) is
      (sends_mapped reply.Span _ (sends_mapped (λ _. span_reply.Done) _
      (finishes world transaction hub moment left))).sends
  span_call _ world out is = tt

  call_sends : (call : Call P C) (world : World P C) (out : Out (Reply P C))
      → (step gives meanings call world).answer ≡ Ok out → FinishesWithTrace world call out.sent
  call_sends (group.Span call) world out is = span_call call world out is
  call_sends _ world out is = tt

  -- ---- runs

  first_sends : (world : World P C) (calls : List (Call P C)) (answers : List (Result (Out (Reply P C)) Refusal))
      (last : World P C) (run : Run gives meanings world calls answers last)
      → FirstHasTrace gives meanings world calls answers last run
  first_sends world [] answers last run = tt
  first_sends world (call ∷ calls) [] last run = tt
  first_sends world (call ∷ calls) (Ok out ∷ answers) last run = call_sends call world out run.1.0
  first_sends world (call ∷ calls) (Err refusal ∷ answers) last run = tt

  pub finished_with_trace : (tag start : ℕ) (calls : List (Call P C))
      (answers : List (Result (Out (Reply P C)) Refusal)) (last : World P C)
      (run : Run gives meanings (starting_world tag start) calls answers last)
      → FinishedHaveTrace gives meanings (starting_world tag start) calls answers last run
  finished_with_trace tag start calls answers last run =
      from_each_call gives meanings (FirstHasTrace gives meanings) (λ world. Unit {0})
      (λ call answer world next may h. tt)
      (λ world calls answers last run h. first_sends world calls answers last run)
      calls answers (starting_world tag start) last run tt
