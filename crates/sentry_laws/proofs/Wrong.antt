-- What the laws refuse.
use Rattle.std.proofs.Common.{◌≡◌, ◌≢◌, refl, ap, ◌∙◌, sym, subst, [], ◌∷◌, true, false}
use Rattle.std.specs.List.{AllByRecursion}
use Rattle.std.specs.Prelude.{Some, ◌||◌}
use Rattle.sentry_plain.proofs.NumberLemmas.{equal_to_itself}
use Rattle.sentry_hub_table.specs.Hubs.{is_session_named}
use Rattle.sentry_base.specs.declared.protocol.envelope.EnvelopeItem.TheVariants as item
use Rattle.sentry_base.specs.declared.protocol.session.SessionStatus.{SessionStatus}
use Rattle.sentry_base.specs.declared.protocol.session.SessionStatus.TheVariants as session_status
use Rattle.sentry_base.specs.declared.protocol.span.Span.{Span}
use Rattle.sentry_options.specs.Meanings.{Meanings}
use Rattle.sentry_batches.specs.Batches.{queued_items, accepted_items}
use Rattle.sentry_laws.specs.Traces.{ItemIsInTrace}
use Rattle.sentry_laws.specs.Wrong.{DerivedHubLeavesMaker, SilentFlushIsRefused, KeptLogIsRefused, LaterCrashIsRefused, OverwrittenStatusIsRefused, ForeignSpanIsRefused, OutlivingSessionIsRefused}

module _ (P C : Type 0) (meanings : C → Meanings) where
  pub derived_leaves : DerivedHubLeavesMaker P C meanings
  derived_leaves tag now scope edits last isolated = isolated 0

pub silent_refused : (P C : Type 0) → SilentFlushIsRefused P C
silent_refused P C world key client log found occupied logs sends =
    let told = (sends 0 client found occupied).0 in
    let none : [] ≡ log ∷ [] = sym (ap (queued_items client.options.plain.max_batch_items) logs)
    ∙ (told ∙ ap accepted_items logs) in
    absurd cc

pub kept_log_refused : (P C : Type 0) → KeptLogIsRefused P C
kept_log_refused P C world key client log found waits closed =
    let none = ((closed key.number client found).1 (ap (λ b. b || false) (equal_to_itself key.number))).0 in
    let no : [] ≡ log ∷ [] = sym none ∙ waits in
    absurd cc

pub overwritten_refused : (P C : Type 0) → OverwrittenStatusIsRefused P C
overwritten_refused P C world next number before after found at crashed exited_ go_on =
    let same : session_status.Exited ≡ session_status.Crashed =
    sym exited_ ∙ ((go_on number before after found at).1 (λ e. not_ok (sym crashed ∙ e)) ∙ crashed) in
    absurd cc
  where
    not_ok : session_status.Crashed ≢ session_status.Ok
    not_ok e = absurd cc

pub foreign_span_refused : ForeignSpanIsRefused
foreign_span_refused key envelope transaction span trace_id items spans named_ apart sent =
    let traced : ItemIsInTrace envelope.header (item.Transaction transaction) =
    (subst (AllByRecursion (ItemIsInTrace envelope.header)) items sent.0).0 in
    let both_ : Some trace_id ≡ Some traced.0 = sym named_ ∙ traced.1 in
    let same : trace_id ≡ traced.0 = cc in
    let mine : span.trace_id ≡ traced.0 =
    (subst (AllByRecursion (λ (span : Span). span.trace_id ≡ traced.0)) spans traced.2).0 in
    apart (mine ∙ sym same)

crashed_late : (first later : SessionStatus) → first ≡ session_status.Exited → later ≡ session_status.Crashed
    → later ≡ first → ⊥
crashed_late first later e f same = absurd cc

exited : (status : SessionStatus) → status ≡ session_status.Exited → status ≢ session_status.Ok
exited status e f = absurd cc

pub later_crash_refused : LaterCrashIsRefused
later_crash_refused first later same exited_ crashed stays =
    crashed_late first.status later.status exited_ crashed ((stays.0 refl (exited first.status exited_)).0 same)

pub outliving_refused : (P C : Type 0) → OutlivingSessionIsRefused P C
outliving_refused P C world key session none held named =
    let no : false ≡ true = ap (is_session_named key) (sym none) ∙ named key session held in
    absurd cc
