-- How a transaction that was sampled is sent.
use Rattle.std.proofs.Common.{◌≡◌, refl, ap, ◌∙◌, sym, subst, true}
use Rattle.std.specs.Prelude.{ℕ, Some, Ok, Err, List, [], ◌∷◌, is_ok, unwrap_or}
use Rattle.std.specs.Option.{option_map}
use Rattle.sentry_base.specs.declared.protocol.context.TraceContext.{TraceContext}
use Rattle.sentry_base.specs.declared.protocol.envelope.Envelope.{Envelope}
use Rattle.sentry_base.specs.declared.protocol.envelope.EnvelopeItem.TheVariants as item
use Rattle.sentry_base.specs.declared.protocol.keys.ClientKey.{ClientKey}
use Rattle.sentry_base.specs.declared.protocol.keys.HubKey.{HubKey}
use Rattle.sentry_base.specs.declared.protocol.keys.TransactionKey.{TransactionKey}
use Rattle.sentry_base.specs.declared.protocol.span.Span.{Span}
use Rattle.sentry_base.specs.declared.protocol.transaction.Transaction.{Transaction}
use Rattle.sentry_hub_table.specs.declared.hub.HubState.{HubState}
use Rattle.sentry_options.specs.declared.clientoptions.ClientOptions.{ClientOptions}
use Rattle.sentry_sending.specs.Sending.{after_sending, for_client}
use Rattle.sentry_span_table.specs.SpanLists.{left_to_send}
use Rattle.sentry_span_table.specs.declared.table.records.TracingState.TheVariants.{Enabled}
use Rattle.sentry_span_table.specs.declared.table.records.TransactionRecord.{TransactionRecord}
use Rattle.sentry_span_table.specs.declared.table.records.Unfinished.{Unfinished}
use Rattle.sentry_spans.specs.Prepared.{filled, prepared_envelope}
use Rattle.sentry_spans.specs.declared.prepared.Prepared.{Prepared}
use Rattle.sentry_spans.specs.Spans.{finish_transaction, sent_transaction, transaction_envelope}
use Rattle.sentry_state.specs.Books.{pending_report}
use Rattle.sentry_state.specs.declared.state.ClientState.{ClientState}
use Rattle.sentry_state.specs.declared.state.State.{State}
use Rattle.sentry_base.specs.declared.protocol.refusal.Refusal.TheVariants.{OutOfMemory}
use Rattle.sentry_state.specs.Outcomes.{IsAnswer, memory, Outcome, hub_at, stored_client_at, stored_transaction_at, reply_with}
use Rattle.sentry_state.specs.SpanChanges.{with_transaction_finished}
use Rattle.sentry_state.specs.Worlds.{Stands, World}

-- the envelope that was prepared, once the transaction has its spans and what it takes on
pub prepared_is : {C : Type 0} (mine options : ClientOptions C) → mine ≡ options → (prepared : Prepared)
    (context : TraceContext) (rate : ℕ) (transaction : Transaction) (sent : List Span → ℕ → Transaction)
    → ((spans : List Span) (moment : ℕ) → filled prepared.filling moment (record transaction { spans = spans })
    ≡ sent spans moment)
    → ((other : Transaction) → Some prepared.trace ≡ (transaction_envelope mine context rate other).header.trace)
    → (spans : List Span) (moment : ℕ) → prepared_envelope prepared moment (record transaction { spans = spans })
    ≡ transaction_envelope options context rate (sent spans moment)
prepared_is mine options is prepared context rate transaction sent same trace spans moment =
    (λ i. record {
      header = record { event_id = Some (same spans moment i).event_id; trace = trace (sent spans moment) i };
      items = item.Transaction (same spans moment i) ∷ [];
    })
    ∙ ap (λ o. transaction_envelope o context rate (sent spans moment)) is

-- what is left to be sent of a transaction that was found unfinished
pub left_is : (held : TransactionRecord) (unfinished : Unfinished) → held.unfinished ≡ Some unfinished
    → left_to_send held ≡ Some (record unfinished.transaction { spans = held.spans })
left_is held unfinished is = ap (option_map (λ found. record found.transaction { spans = held.spans })) is

-- what was handed out of it
pub handed_out : (held : TransactionRecord) (unfinished : Unfinished) (transaction : Transaction)
    → held.unfinished ≡ Some unfinished → Some transaction ≡ left_to_send held
    → transaction ≡ record unfinished.transaction { spans = held.spans }
handed_out held unfinished transaction is same =
    ap (λ o. unwrap_or o transaction) (same ∙ left_is held unfinished is)

module _ {P C : Type 0} where
  -- the envelope of a transaction that finishes
  abbrev pub finished_envelope : TransactionRecord → HubState P → Unfinished → ℕ → ℕ → ClientState C → Envelope
  finished_envelope held hub unfinished rate moment client =
      transaction_envelope client.options held.context rate
      (sent_transaction client hub.stack.top.scope held.context held.spans moment unfinished.transaction)

  -- a transaction that was sampled, and whose client has an occupied slot
  pub finish_is : (key : TransactionKey) (hub_key : HubKey) (moment : ℕ) (world : World P C) (held : TransactionRecord)
      (hub : HubState P) (unfinished : Unfinished) (rate : ℕ) (client : ClientState C)
      → stored_transaction_at world key ≡ Some held → hub_at world hub_key ≡ Some hub
      → held.unfinished ≡ Some unfinished → held.tracing ≡ Enabled true rate
      → stored_client_at world unfinished.client ≡ Some client → client.occupied ≡ true
      → finish_transaction key hub_key moment world
      ≡ reply_with tt
      (for_client unfinished.client (pending_report world client.label)
      (finished_envelope held hub unfinished rate moment client ∷ []))
      (after_sending client.label (for_client unfinished.client (pending_report world client.label)
      (finished_envelope held hub unfinished rate moment client ∷ [])) (with_transaction_finished key world))
  unfolding finish_transaction
  finish_is key hub_key moment world held hub unfinished rate client at found is traced named occupied =
      rw at (rw found (rw is (rw traced (rw named (rw occupied refl)))))

  -- a call whose outcome is known, where the engine stands for the world after it
  pub replied : {T : Type 0} (outcome : Outcome P C T) (reply : T) (sent handed : List (ClientKey × Envelope))
      (after : World P C) (new : State P C)
      → outcome ≡ reply_with reply sent after → handed ≡ sent → Stands new after
      → (outcome.answer ≡ Ok (record { reply = reply; sent = handed })) × Stands new outcome.after
  replied outcome reply sent handed after new is same stands = (
    ap (λ o. o.answer) is ∙ ap (λ envelopes. Ok (record { reply = reply; sent = envelopes })) (sym same),
    subst (λ w. Stands new w) (sym (ap (λ o. o.after) is)) stands,
  )

  -- a call that replies may answer out of memory
  pub may_lack_memory : {T : Type 0} (outcome : Outcome P C T) (reply : T) (sent : List (ClientKey × Envelope))
      (after : World P C) → outcome ≡ reply_with reply sent after → IsAnswer outcome.answer (Err OutOfMemory) memory
  may_lack_memory outcome reply sent after is = ap (λ o. is_ok o.answer) is
