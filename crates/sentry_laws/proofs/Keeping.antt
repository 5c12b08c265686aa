-- What each change or each call keeps, each run keeps.
use Rattle.std.proofs.Common.{sym, subst, List, [], ◌∷◌}
use Rattle.std.specs.Prelude.{Option, Result, Ok, Err}
use Rattle.sentry_base.specs.Callbacks.{Partial}
use Rattle.sentry_base.specs.declared.protocol.envelope.Envelope.{Envelope}
use Rattle.sentry_base.specs.declared.protocol.keys.ClientKey.{ClientKey}
use Rattle.sentry_base.specs.declared.protocol.refusal.Refusal.{Refusal}
use Rattle.sentry_options.specs.Meanings.{Meanings}
use Rattle.sentry_state.specs.declared.state.Out.{Out}
use Rattle.sentry_state.specs.Worlds.{World}
use Rattle.sentry_calls.specs.declared.call.Call.{Call}
use Rattle.sentry_calls.specs.declared.call.Reply.{Reply}
use Rattle.sentry_calls.specs.Runs.{StepsTo, Run}
use Rattle.sentry_calls.specs.Steps.{step}
use Rattle.sentry_laws.proofs.Changes.{Change, Changes, nothing, one, both}
use Rattle.sentry_laws.proofs.Effects.{Effect, effects}
use Rattle.sentry_laws.specs.SentItems.{handed_in}
use Rattle.sentry_laws.proofs.Trails.{Trail, TellsBy}
use Rattle.sentry_laws.proofs.Calls.{told_step}

module _ {P C : Type 0} (gives : P → Partial) (meanings : C → Meanings) where
  -- what a call that was accepted changed
  pub trail_of : (call : Call P C) (out : Out (Reply P C)) (world next : World P C) → StepsTo gives meanings world call
      (Ok out) next
      → Trail meanings (handed_in call) world (effects meanings call out.reply) out.sent next
  trail_of call out world next may =
      subst (λ (w : World P C). Trail meanings (handed_in call) world (effects meanings call out.reply) out.sent w)
      (sym may.1)
      (subst (λ answer. TellsBy meanings (handed_in call) world (effects meanings call) answer
      (step gives meanings call world).after) may.0 (told_step gives meanings call world).tells)

  -- what each call that is accepted keeps
  module _ (Holds : World P C → Type 0)
      (kept : (call : Call P C) (out : Out (Reply P C)) (world next : World P C) → StepsTo gives meanings world call (Ok out)
      next → Holds world → Holds next) where
    answered : (call : Call P C) (answer : Result (Out (Reply P C)) Refusal) (world next : World P C)
        → StepsTo gives meanings world call answer next → Holds world → Holds next
    answered call (Ok out) world next may h = kept call out world next may h
    answered call (Err refusal) world next may h = subst Holds (sym may.1) h

    pub kept_by_calls : (calls : List (Call P C)) (answers : List (Result (Out (Reply P C)) Refusal))
        (world last : World P C) → Run gives meanings world calls answers last → Holds world → Holds last
    kept_by_calls [] [] world last run h = subst Holds (sym run) h
    kept_by_calls (call ∷ calls) (answer ∷ answers) world last run h =
        kept_by_calls calls answers run.0 last run.2 (answered call answer world run.0 run.1 h)
    kept_by_calls [] (answer ∷ answers) world last run h = absurd run
    kept_by_calls (call ∷ calls) [] world last run h = absurd run

  -- what each change keeps
  module _ (Holds : World P C → Type 0)
      (kept : (given : Option Envelope) (old new : World P C) (some : List (Effect P C))
      (sent : List (ClientKey × Envelope)) → Change meanings given old some sent new → Holds old → Holds new) where
    pub kept_by_changes : {given : Option Envelope} {old new : World P C} {some : List (Effect P C)} {sent : List
        (ClientKey × Envelope)} → Changes meanings given old some sent new → Holds old → Holds new
    kept_by_changes (nothing world) h = h
    kept_by_changes {given} {old} {new} {some} {sent} (one c) h = kept given old new some sent c h
    kept_by_changes (both t u) h = kept_by_changes u (kept_by_changes t h)

    pub kept_by_call : (call : Call P C) (answer : Result (Out (Reply P C)) Refusal) (world next : World P C)
        → StepsTo gives meanings world call answer next → Holds world → Holds next
    kept_by_call call (Ok out) world next may h = kept_by_changes (trail_of call out world next may).changes h
    kept_by_call call (Err refusal) world next may h = subst Holds (sym may.1) h

    pub kept_by_run : (calls : List (Call P C)) (answers : List (Result (Out (Reply P C)) Refusal))
        (world last : World P C) → Run gives meanings world calls answers last → Holds world → Holds last
    kept_by_run calls answers world last run h =
        kept_by_calls Holds (λ call out. kept_by_call call (Ok out)) calls answers world last run h
