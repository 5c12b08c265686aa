-- A finish and then a discard, as one call.
use Rattle.std.proofs.Common.{◌≡◌, refl, ap, ◌∙◌, sym, subst, Bool, true, false, cond}
use Rattle.std.specs.Prelude.{ℕ, Option, Some, None, Result, Ok, Err, List, [], IsErr, is_ok, is_some, not, ◌==◌}
use Rattle.std.specs.Option.{option_map}
use Rattle.std.specs.Result.{IsErrAnd}
use Rattle.sentry_plain.specs.Tables.{value_at, replace_at, without}
use Rattle.sentry_base.specs.declared.protocol.envelope.Envelope.{Envelope}
use Rattle.sentry_base.specs.declared.protocol.keys.ClientKey.{ClientKey}
use Rattle.sentry_base.specs.declared.protocol.keys.SpanKey.{SpanKey}
use Rattle.sentry_base.specs.declared.protocol.keys.TransactionKey.{TransactionKey}
use Rattle.sentry_base.specs.declared.protocol.keys.TransactionOrSpanKey.{TransactionOrSpanKey}
use Rattle.sentry_base.specs.declared.protocol.keys.TransactionOrSpanKey.TheVariants as key_of
use Rattle.sentry_base.specs.declared.protocol.refusal.Refusal.{Refusal}
use Rattle.sentry_base.specs.declared.protocol.refusal.Refusal.TheVariants.{OutOfMemory, Stale, OutOfOrder, StillNamed, ScopesOpen, InvalidDsn, InvalidRate, ForeignLosses, Full}
use Rattle.sentry_hub_table.specs.Hubs.{is_span_named, is_transaction_named}
use Rattle.sentry_spans.specs.Discards.{discard}
use Rattle.sentry_span_table.specs.SpanLists.{TransactionHistory, fate_of, stored_transaction, with_span_finished}
use Rattle.sentry_span_table.specs.SpanTables.{has_span_of, transaction_in}
use Rattle.sentry_span_table.specs.declared.table.records.SpanFate.{SpanFate}
use Rattle.sentry_span_table.specs.declared.table.records.SpanFate.TheVariants.{Kept}
use Rattle.sentry_span_table.specs.declared.table.records.SpanRecord.{SpanRecord}
use Rattle.sentry_span_table.specs.declared.table.records.TransactionRecord.{TransactionRecord}
use Rattle.sentry_spans.specs.Ends.{discarded, discard_after, end_span, discard_answer, then_discard}
use Rattle.sentry_spans.specs.Spans.{finish_span, with_fate, with_span_in}
use Rattle.sentry_state.specs.declared.state.Out.{Out}
use Rattle.sentry_state.specs.Outcomes.{Does, IsAnswer, memory, nothing, Outcome, stored_transaction_at, reply_with, require, require_some, span_at, transaction_at}
use Rattle.sentry_state.specs.SpanChanges.{finished_span, with_span, with_transaction}
use Rattle.sentry_state.specs.declared.state.State.{State}
use Rattle.sentry_state.specs.Worlds.{Stands, World, span_table}
use Rattle.sentry_state.proofs.SpanKeeping.{transaction_in_world}
use Rattle.sentry_state.proofs.TableLemmas.{value_replaced, without_replaced}

is_refused : (answer : Result (Out (Unit {0})) Refusal) (refusal : Refusal) → answer ≡ Err refusal → is_ok answer ≡ false
is_refused answer refusal e = ap is_ok e

err_answer : (expected : Result (Out (Unit {0})) Refusal) (refusal : Refusal) → IsAnswer expected (Err refusal) nothing
    → expected ≡ Err refusal
err_answer expected OutOfMemory h = absurd h
err_answer expected Stale h = h
err_answer expected OutOfOrder h = h
err_answer expected StillNamed h = h
err_answer expected ScopesOpen h = h
err_answer expected (InvalidDsn error) h = h
err_answer expected InvalidRate h = h
err_answer expected ForeignLosses h = h
err_answer expected Full h = h

pub discard_answer-err : (expected : Result (Out (Unit {0})) Refusal) (refusal : Refusal)
    → IsAnswer expected (Err refusal) nothing → Err refusal ≡ discard_answer expected
discard_answer-err expected refusal h = sym (ap discard_answer (err_answer expected refusal h))

-- what stands under the key of the span, once it is finished
still_held : (b : Bool) (spans : List (ℕ × SpanRecord)) (number : ℕ) (held done : SpanRecord)
    → cond b (value_at spans number) None ≡ Some held → cond b (value_at (replace_at spans number done) number) None ≡ Some done
still_held true spans number held done e = value_replaced number spans done held e
still_held false spans number held done e = absurd cc

-- the refusal that was handed on
pub handed_on : (result : Result (Unit {0}) Refusal) (refusal : Refusal) → IsErr result
    → IsErrAnd result (λ cause. cause ≡ refusal) → result ≡ Err refusal
handed_on (Ok out) refusal is same = absurd cc
handed_on (Err cause) refusal is same = ap Err same

-- a transaction that an engine has is one of the world
there_is : (o : Option TransactionHistory) → is_some (option_map stored_transaction o) ≡ true
    → (kept : TransactionHistory) × (o ≡ Some kept)
there_is None h = absurd cc
there_is (Some kept) h = (kept, refl)

module _ {P C : Type 0} where
  pub kept_in_world : (engine : State P C) (world : World P C) → Stands engine world → (key : TransactionKey)
      → is_some (transaction_in engine.spans key) ≡ true
      → (kept : TransactionHistory) × (transaction_at world key ≡ Some kept)
  kept_in_world engine world s key h =
      there_is (transaction_at world key) (ap is_some (sym (transaction_in_world engine world s key)) ∙ h)

  -- a call that is refused since it is out of memory, and changed nothing
  pub refused_for_memory : {T : Type 0} (old new : State P C) (result : Result (Out T) Refusal)
      (outcome : World P C → Outcome P C T) → IsErr result → IsErrAnd result (λ refusal. refusal ≡ OutOfMemory)
      → new ≡ old
      → ((world : World P C) → Stands old world → IsAnswer (outcome world).answer (Err OutOfMemory) memory)
      → Does old new result outcome
  refused_for_memory old new (Ok out) outcome is gives same lacks = absurd cc
  refused_for_memory old new (Err refusal) outcome is gives same lacks = (
    same,
    λ world s. subst (λ cause. IsAnswer (outcome world).answer (Err cause) memory) (sym gives) (lacks world s),
  )

  -- a finish that answered, and then the discard
  pub then_is : (finish : Outcome P C (Unit {0})) (go : World P C → Outcome P C (Unit {0})) (out : Out (Unit {0}))
      → finish.answer ≡ Ok out → then_discard finish go ≡ discarded out.sent (go finish.after)
  then_is finish go out e = ap (λ a. discard_after a finish.after go) e

  ok_then : (answer : Result (Out (Unit {0})) Refusal) (world : World P C) (go : World P C → Outcome P C (Unit {0}))
      → is_ok answer ≡ true → is_ok (discard_after answer world go).answer ≡ true
  ok_then (Ok out) world go e = refl
  ok_then (Err refusal) world go e = absurd cc

  -- a finish that is refused refuses the whole call
  pub refused_then : (finish : Outcome P C (Unit {0})) (go : World P C → Outcome P C (Unit {0})) (refusal : Refusal)
      → IsAnswer finish.answer (Err refusal) memory → IsAnswer (then_discard finish go).answer (Err refusal) memory
  refused_then finish go OutOfMemory h = ok_then finish.answer finish.after go h
  refused_then finish go Stale h = ap (λ a. (discard_after a finish.after go).answer) h
  refused_then finish go OutOfOrder h = ap (λ a. (discard_after a finish.after go).answer) h
  refused_then finish go StillNamed h = ap (λ a. (discard_after a finish.after go).answer) h
  refused_then finish go ScopesOpen h = ap (λ a. (discard_after a finish.after go).answer) h
  refused_then finish go (InvalidDsn error) h = ap (λ a. (discard_after a finish.after go).answer) h
  refused_then finish go InvalidRate h = ap (λ a. (discard_after a finish.after go).answer) h
  refused_then finish go ForeignLosses h = ap (λ a. (discard_after a finish.after go).answer) h
  refused_then finish go Full h = ap (λ a. (discard_after a finish.after go).answer) h

  -- ---- discards that are refused change nothing

  abbrev pub IsUndone : World P C → Outcome P C (Unit {0}) → Type 0
  IsUndone world outcome = is_ok outcome.answer ≡ false → outcome.after ≡ world

  undone_some : {X : Type 0} (refusal : Refusal) (world : World P C) (o : Option X) (go : X → Outcome P C (Unit {0}))
      → ((x : X) → IsUndone world (go x)) → IsUndone world (require_some refusal world o go)
  undone_some refusal world None go h = λ e. refl
  undone_some refusal world (Some x) go h = h x

  undone_require : (refusal : Refusal) (world : World P C) (b : Bool) (go : Outcome P C (Unit {0}))
      → IsUndone world go → IsUndone world (require refusal world b go)
  undone_require refusal world true go h = h
  undone_require refusal world false go h = λ e. refl

  undone_reply : (sent : List (ClientKey × Envelope)) (world after : World P C) → IsUndone world (reply_with tt sent after)
  undone_reply sent world after = λ e. absurd cc

  discard_undone : (span : TransactionOrSpanKey) (world : World P C) → IsUndone world (discard span world)
  unfolding discard
  discard_undone (key_of.Transaction key) world =
      undone_some Stale world (stored_transaction_at world key) _ (λ held.
      undone_require StillNamed world (not (is_transaction_named key world.hubs)) _
      (undone_require StillNamed world (not (has_span_of (span_table world) key)) _ (undone_reply [] world _)))
  discard_undone (key_of.Span key) world =
      undone_some Stale world (span_at world key) _ (λ held.
      undone_require StillNamed world (not (is_span_named key world.hubs)) _ (undone_reply [] world _))

  -- what an engine that made the discard answers and stands for
  pub discard_answer-ok : (outcome : Outcome P C (Unit {0})) (out : Out (Unit {0}))
      → IsAnswer outcome.answer (Ok out) nothing → Ok tt ≡ discard_answer outcome.answer
  discard_answer-ok outcome out h = sym (ap discard_answer h)

  pub stays : (span : TransactionOrSpanKey) (world : World P C) (refusal : Refusal)
      → IsAnswer (discard span world).answer (Err refusal) nothing → (discard span world).after ≡ world
  stays span world refusal h = discard_undone span world
      (is_refused (discard span world).answer refusal (err_answer (discard span world).answer refusal h))

  -- ---- a span that moves

  -- the world after a span moved
  abbrev pub moved : SpanKey → ℕ → SpanRecord → TransactionHistory → World P C → World P C
  moved key moment held kept world =
      record (with_transaction held.transaction.number (with_span_finished (finished_span moment held).span kept) world) {
        spans = without world.spans key.number;
      }

  discards : (key : SpanKey) (world : World P C) (held : SpanRecord) → span_at world key ≡ Some held
      → is_span_named key world.hubs ≡ false
      → discard (key_of.Span key) world ≡ reply_with tt [] (record world { spans = without world.spans key.number })
  unfolding discard
  discards key world held at unnamed =
      ap (λ o. require_some Stale world o (λ (found : SpanRecord).
      require StillNamed world (not (is_span_named key world.hubs))
      (reply_with tt [] (record world { spans = without world.spans key.number })))) at
      ∙ ap (λ b. require StillNamed world (not b)
      (reply_with tt [] (record world { spans = without world.spans key.number }))) unnamed

  finishes : (key : SpanKey) (moment : ℕ) (world : World P C) (held : SpanRecord) (kept : TransactionHistory)
      → span_at world key ≡ Some held → held.span.timestamp ≡ None → transaction_at world held.transaction ≡ Some kept
      → fate_of kept ≡ Kept
      → finish_span key moment world ≡ reply_with tt [] (with_transaction held.transaction.number
      (with_span_finished (finished_span moment held).span kept) (with_span key.number (finished_span moment held) world))
  unfolding finish_span
  finishes key moment world held kept at unfinished there fate =
      let done = finished_span moment held in
      let after = with_span key.number done world in
      ap (λ o. require_some Stale world o (λ (found : SpanRecord).
      cond (is_some found.span.timestamp) (reply_with tt [] world)
      (reply_with tt [] (with_span_in found.transaction (finished_span moment found).span
      (transaction_at world found.transaction) (with_span key.number (finished_span moment found) world))))) at
      ∙ ap (λ (t : Option ℕ). cond (is_some t) (reply_with tt [] world)
      (reply_with tt [] (with_span_in held.transaction done.span (transaction_at world held.transaction) after))) unfinished
      ∙ ap (λ o. reply_with tt [] (with_span_in held.transaction done.span o after)) there
      ∙ ap (λ f. reply_with tt []
      (with_fate f (with_transaction held.transaction.number (with_span_finished done.span kept) after))) fate

  pub end_is : (key : SpanKey) (moment : ℕ) (world : World P C) (held : SpanRecord) (kept : TransactionHistory)
      → span_at world key ≡ Some held → held.span.timestamp ≡ None → is_span_named key world.hubs ≡ false
      → transaction_at world held.transaction ≡ Some kept → fate_of kept ≡ Kept
      → end_span key moment world ≡ reply_with (Ok tt) [] (moved key moment held kept world)
  end_is key moment world held kept at unfinished unnamed there fate =
      let done = finished_span moment held in
      let after = with_transaction held.transaction.number (with_span_finished done.span kept) (with_span key.number done world) in
      ap (λ o. then_discard o (discard (key_of.Span key))) (finishes key moment world held kept at unfinished there fate)
      ∙ ap (discarded []) (discards key after done
      (still_held (key.tag == world.tag) world.spans key.number held done at) unnamed)
      ∙ ap (λ spans. reply_with (Ok tt) [] (record after { spans = spans })) (without_replaced key.number world.spans done)
