-- What an engine did is what its definition may answer.
use Rattle.std.proofs.Common.{◌≡◌, false}
use Rattle.sentry_state.specs.Worlds.{Stands}
use Rattle.sentry_state.specs.Outcomes.{DoesWith}
use Rattle.sentry_calls.specs.Steps.{step, needs}
use Rattle.sentry_engine.proofs.RunLemmas.{may_from_does}
use Rattle.replay_run.specs.Engines.{same_event, no_callbacks, ReplayState, ReplayWorld, ReplayCall, ReplayAnswer}
use Rattle.replay_run.specs.Replays.{is_out_of_memory, MayAnswer}

pub may_answer : (old new : ReplayState) (call : ReplayCall) (world : ReplayWorld) → Stands old world → (answer : ReplayAnswer) → is_out_of_memory answer ≡ false
    → DoesWith (needs call) old new answer (step same_event no_callbacks call)
    → (next : ReplayWorld) × MayAnswer world call answer next × Stands new next
may_answer old new call world stands answer other does =
    let done = may_from_does same_event no_callbacks old new call answer does world stands in
    (done.0, (done.1, other), done.2)
