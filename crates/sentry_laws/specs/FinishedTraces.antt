-- The trace of a transaction that finishes.
use Rattle.std.specs.Prelude.{◌≡◌, Some, None, List, [], ◌∷◌, Result, Ok, Err, codes}
use Rattle.std.specs.List.{AllByRecursion}
use Rattle.sentry_plain.specs.Texts.{value_at}
use Rattle.sentry_base.specs.Callbacks.{Partial}
use Rattle.sentry_base.specs.declared.protocol.context.Context.TheVariants as context_of
use Rattle.sentry_base.specs.declared.protocol.context.TraceContext.{TraceContext}
use Rattle.sentry_base.specs.declared.protocol.envelope.Envelope.{Envelope}
use Rattle.sentry_base.specs.declared.protocol.envelope.EnvelopeHeaders.{EnvelopeHeaders}
use Rattle.sentry_base.specs.declared.protocol.envelope.EnvelopeItem.{EnvelopeItem}
use Rattle.sentry_base.specs.declared.protocol.envelope.EnvelopeItem.TheVariants as item
use Rattle.sentry_base.specs.declared.protocol.keys.ClientKey.{ClientKey}
use Rattle.sentry_base.specs.declared.protocol.keys.HubKey.{HubKey}
use Rattle.sentry_base.specs.declared.protocol.refusal.Refusal.{Refusal}
use Rattle.sentry_options.specs.Meanings.{Meanings}
use Rattle.sentry_hub_table.specs.declared.hub.HubState.{HubState}
use Rattle.sentry_state.specs.declared.state.Out.{Out}
use Rattle.sentry_state.specs.Outcomes.{hub_at}
use Rattle.sentry_state.specs.Worlds.{World}
use Rattle.sentry_calls.specs.Runs.{Run}
use Rattle.sentry_calls.specs.declared.call.Call.{Call}
use Rattle.sentry_calls.specs.declared.call.Call.TheVariants as group
use Rattle.sentry_calls.specs.declared.call.Reply.{Reply}
use Rattle.sentry_calls.specs.declared.call.spans.records.SpanCall.TheVariants.{FinishTransaction}
use Rattle.sentry_laws.specs.PartsOfRuns.{FromEachCall}
use Rattle.sentry_laws.specs.Traces.{trace_named}

-- a transaction under a header has as its context `trace` a place in the trace that the header names
abbrev pub ItemHasTrace : EnvelopeHeaders → EnvelopeItem → Type 0
ItemHasTrace header (item.Transaction transaction) =
    (context : TraceContext) × (value_at transaction.contexts (codes "trace") ≡ Some (context_of.Trace context))
    × (trace_named header ≡ Some context.trace_id)
ItemHasTrace header _ = Unit {0}

abbrev pub HaveTrace : List (ClientKey × Envelope) → Type 0
HaveTrace sent =
    AllByRecursion (λ (one_ : ClientKey × Envelope). AllByRecursion (ItemHasTrace one_.1.header) one_.1.items) sent

module _ {P C : Type 0} where
  -- the top scope of the hub has no context `trace`, with which it would override the transaction's
  abbrev pub LeavesTrace : World P C → HubKey → Type 0
  LeavesTrace world key =
      (hub : HubState P) → hub_at world key ≡ Some hub
      → value_at hub.stack.top.scope.contexts (codes "trace") ≡ None

  -- so is a transaction that finishes under a scope that leaves its trace
  abbrev pub FinishesWithTrace : World P C → Call P C → List (ClientKey × Envelope) → Type 0
  FinishesWithTrace world (group.Span (FinishTransaction transaction hub moment)) sent =
      LeavesTrace world hub → HaveTrace sent
  FinishesWithTrace world call sent = Unit {0}

module _ {P C : Type 0} (gives : P → Partial) (meanings : C → Meanings) where
  -- of the first call of a run, if it is accepted
  abbrev pub FirstHasTrace : (world : World P C) (calls : List (Call P C))
      (answers : List (Result (Out (Reply P C)) Refusal)) (last : World P C)
      → Run gives meanings world calls answers last → Type 0
  FirstHasTrace world (call ∷ calls) (Ok out ∷ answers) last run = FinishesWithTrace world call out.sent
  FirstHasTrace world (call ∷ calls) (Err refusal ∷ answers) last run = Unit {0}
  FirstHasTrace world [] answers last run = Unit {0}
  FirstHasTrace world (call ∷ calls) [] last run = Unit {0}

  -- of each call
  abbrev pub FinishedHaveTrace : (world : World P C) (calls : List (Call P C))
      (answers : List (Result (Out (Reply P C)) Refusal)) (last : World P C)
      → Run gives meanings world calls answers last → Type 0
  FinishedHaveTrace world calls answers last run =
      FromEachCall gives meanings FirstHasTrace world calls answers last run
