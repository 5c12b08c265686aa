use Rattle.std.proofs.Common.{subst, sym, ◌∙◌}
use Rattle.sentry_state.specs.Outcomes.{DoesWith}
use Rattle.sentry_calls.specs.Steps.{step, needs}
use Rattle.replay_run.specs.Calls.{call_of}
use Rattle.replay_run.specs.Engines.{same_event, no_callbacks, ReplayCall}
use Rattle.replay_run.proofs.AnswerLemmas.{may_answer}
use Rattle.replay_run.proofs.run.execute.Goals as goal

pub returns : goal.returns
returns c = λ world stands.
    may_answer c.args.engine.now c.apply-answer.new.self (call_of c.args.number c.args.command) world stands c.apply-answer.result
    (sym c.is_out_of_memory.ensures ∙ c.if-is_out_of_memory.false)
    (subst (λ (call : ReplayCall). DoesWith (needs call) c.args.engine.now c.apply-answer.new.self c.apply-answer.result (step same_event no_callbacks call)) c.in_ok-call.ensures c.apply-answer.ensures)
