use Rattle.std.proofs.Common.{◌≡◌, [], ◌∷◌, rules, subst, List, length, refl, arith}
use Rattle.std.specs.Vec.Iter.{into_iter_items}
use Rattle.sentry_calls.specs.declared.call.Call.{Call}
use Rattle.sentry_state.specs.Worlds.{first_world}
use Rattle.sentry_laws.proofs.Accepted.{accepts_logs, accepts_metrics}
use Rattle.sentry_laws.proofs.ActiveSpans.{active_spans_held}
use Rattle.sentry_laws.proofs.Closings.{closed_by_calls}
use Rattle.sentry_laws.proofs.CallsAddUp.{calls_add_up}
use Rattle.sentry_laws.proofs.FinishedTraces.{finished_with_trace}
use Rattle.sentry_laws.proofs.Isolation.{named_clients_held, isolated, keeps_options}
use Rattle.sentry_laws.proofs.LabelBooks.{books_of_clients}
use Rattle.sentry_laws.proofs.KeptStatuses.{statuses_kept}
use Rattle.sentry_laws.proofs.LossesByCalls.{records_losses}
use Rattle.sentry_laws.proofs.NamedSessions.{sessions_named}
use Rattle.sentry_laws.proofs.Numbers.{numbers_are_free}
use Rattle.sentry_laws.proofs.PushPop.{all_pushes_undone}
use Rattle.sentry_laws.proofs.Reports.{reports_add_up}
use Rattle.sentry_laws.proofs.SentKinds.{sends_logs, sends_metrics, sends_logs_at_each_call, sends_metrics_at_each_call}
use Rattle.sentry_laws.proofs.SecondEnds.{all_ends_silent}
use Rattle.sentry_laws.proofs.SentTraces.{sent_in_trace}
use Rattle.sentry_laws.proofs.Traces.{kept_in_trace, held_in_trace}
use Rattle.sentry_laws.proofs.Updates.{statuses_stay}
use Rattle.sentry_engine.proofs.RunLemmas.{Reaches, reaches_more, reaches_end}
use Rattle.sentry_engine.proofs.engine.Engine.run.Goals as goal

no_items : {A : Type 0} (calls : List A) → length calls ≡ 0 → calls ≡ []
no_items [] e = refl
no_items (call ∷ calls) e = absurd (omega arith)

pub loop-call-preserved : goal.loop-call-preserved
loop-call-preserved g c =
    let e : into_iter_items c.loop-call.call-iterator ≡ c.in-Some.call ∷ into_iter_items c.next.new.self = search rules in
    let before : Reaches g.P.EventCallback.gives g.C.Callbacks.meanings (first_world c.args.tag) c.args.calls.items c.loop-call.engine c.loop-call.answers.items (c.in-Some.call ∷ into_iter_items c.next.new.self) =
    subst (λ (left : List (Call (denote.Param.param 0 g.row.P).Denot (denote.Param.param 0 g.row.C).Denot)). Reaches g.P.EventCallback.gives g.C.Callbacks.meanings (first_world c.args.tag) c.args.calls.items c.loop-call.engine c.loop-call.answers.items left) e c.loop-call.invariant.reaches in
    record {
      reaches =
          rw c.push_reserved.ensures.items
          (reaches_more g.P.EventCallback.gives g.C.Callbacks.meanings (first_world c.args.tag) c.args.calls.items c.loop-call.engine c.apply-answer.new.self c.loop-call.answers.items c.in-Some.call (into_iter_items c.next.new.self) c.apply-answer.result before c.apply-answer.ensures);
      room = grind (arith, c.push_reserved.ensures.len, c.push_reserved.ensures.capacity, c.loop-call.invariant.room, e);
    }

pub returns-clause-ran : goal.returns-clause-ran
returns-clause-ran g c =
    let e : into_iter_items c.loop-call.call-iterator ≡ [] = no_items _ (grind arith) in
    reaches_end g.P.EventCallback.gives g.C.Callbacks.meanings (first_world c.args.tag) c.args.calls.items c.loop-call.engine c.loop-call.answers.items
    (subst (λ (left : List (Call (denote.Param.param 0 g.row.P).Denot (denote.Param.param 0 g.row.C).Denot)). Reaches g.P.EventCallback.gives g.C.Callbacks.meanings (first_world c.args.tag) c.args.calls.items c.loop-call.engine c.loop-call.answers.items left) e c.loop-call.invariant.reaches)

pub returns-clause-hubs : goal.returns-clause-hubs
returns-clause-hubs g c = isolated g.P.EventCallback.gives g.C.Callbacks.meanings c.args.tag 0 c.args.calls.items c.loop-call.answers.items

pub returns-clause-options : goal.returns-clause-options
returns-clause-options g c = keeps_options g.P.EventCallback.gives g.C.Callbacks.meanings c.args.tag 0 c.args.calls.items c.loop-call.answers.items

pub returns-clause-logs : goal.returns-clause-logs
returns-clause-logs g c = λ last run. (
  sends_logs g.P.EventCallback.gives g.C.Callbacks.meanings c.args.tag 0 c.args.calls.items c.loop-call.answers.items last run,
  sends_logs_at_each_call g.P.EventCallback.gives g.C.Callbacks.meanings c.args.tag 0 c.args.calls.items c.loop-call.answers.items last run,
  accepts_logs g.P.EventCallback.gives g.C.Callbacks.meanings c.args.tag 0 c.args.calls.items c.loop-call.answers.items last run,
)

pub returns-clause-metrics : goal.returns-clause-metrics
returns-clause-metrics g c = λ last run. (
  sends_metrics g.P.EventCallback.gives g.C.Callbacks.meanings c.args.tag 0 c.args.calls.items c.loop-call.answers.items last run,
  sends_metrics_at_each_call g.P.EventCallback.gives g.C.Callbacks.meanings c.args.tag 0 c.args.calls.items c.loop-call.answers.items last run,
  accepts_metrics g.P.EventCallback.gives g.C.Callbacks.meanings c.args.tag 0 c.args.calls.items c.loop-call.answers.items last run,
)

pub returns-clause-closed : goal.returns-clause-closed
returns-clause-closed g c = closed_by_calls g.P.EventCallback.gives g.C.Callbacks.meanings c.args.tag 0 c.args.calls.items c.loop-call.answers.items

pub returns-clause-traces : goal.returns-clause-traces
returns-clause-traces g c = λ last run. (
  kept_in_trace g.P.EventCallback.gives g.C.Callbacks.meanings c.args.tag 0 c.args.calls.items c.loop-call.answers.items last run,
  held_in_trace g.P.EventCallback.gives g.C.Callbacks.meanings c.args.tag 0 c.args.calls.items c.loop-call.answers.items last run,
)

pub returns-clause-sent : goal.returns-clause-sent
returns-clause-sent g c = λ last run. (
  sent_in_trace g.P.EventCallback.gives g.C.Callbacks.meanings c.args.tag 0 c.args.calls.items c.loop-call.answers.items last run,
  finished_with_trace g.P.EventCallback.gives g.C.Callbacks.meanings c.args.tag 0 c.args.calls.items c.loop-call.answers.items last run,
)

pub returns-clause-reports : goal.returns-clause-reports
returns-clause-reports g c = reports_add_up g.P.EventCallback.gives g.C.Callbacks.meanings c.args.tag 0 c.args.calls.items c.loop-call.answers.items

pub returns-clause-losses : goal.returns-clause-losses
returns-clause-losses g c = λ last run. (
  records_losses g.P.EventCallback.gives g.C.Callbacks.meanings c.args.tag 0 c.args.calls.items c.loop-call.answers.items last run,
  calls_add_up g.P.EventCallback.gives g.C.Callbacks.meanings c.args.tag 0 c.args.calls.items c.loop-call.answers.items last run,
)

pub returns-clause-worlds : goal.returns-clause-worlds
returns-clause-worlds g c = λ last run. (
  numbers_are_free g.P.EventCallback.gives g.C.Callbacks.meanings c.args.tag 0 c.args.calls.items c.loop-call.answers.items last run,
  books_of_clients g.P.EventCallback.gives g.C.Callbacks.meanings c.args.tag 0 c.args.calls.items c.loop-call.answers.items last run,
  named_clients_held g.P.EventCallback.gives g.C.Callbacks.meanings c.args.tag 0 c.args.calls.items c.loop-call.answers.items last run,
  active_spans_held g.P.EventCallback.gives g.C.Callbacks.meanings c.args.tag 0 c.args.calls.items c.loop-call.answers.items last run,
  sessions_named g.P.EventCallback.gives g.C.Callbacks.meanings c.args.tag 0 c.args.calls.items c.loop-call.answers.items last run,
)

pub returns-clause-layers : goal.returns-clause-layers
returns-clause-layers g c = all_pushes_undone g.P.EventCallback.gives g.C.Callbacks.meanings c.args.tag 0 c.args.calls.items c.loop-call.answers.items

pub returns-clause-status : goal.returns-clause-status
returns-clause-status g c = statuses_stay g.P.EventCallback.gives g.C.Callbacks.meanings c.args.tag 0 c.args.calls.items c.loop-call.answers.items

pub returns-clause-kept : goal.returns-clause-kept
returns-clause-kept g c = statuses_kept g.P.EventCallback.gives g.C.Callbacks.meanings c.args.tag 0 c.args.calls.items c.loop-call.answers.items

pub returns-clause-once : goal.returns-clause-once
returns-clause-once g c = all_ends_silent g.P.EventCallback.gives g.C.Callbacks.meanings c.args.tag 0 c.args.calls.items c.loop-call.answers.items
