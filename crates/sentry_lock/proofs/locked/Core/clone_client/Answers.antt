use Rattle.sentry_calls.specs.Clients as clients
use Rattle.sentry_state.specs.Outcomes.{memory}
use Rattle.sentry_lock.proofs.Keeps.{clone_client_keeps}
use Rattle.sentry_lock.proofs.Sound.{after_call}
use Rattle.sentry_lock.proofs.locked.Core.clone_client.Goals as goal

pub invariant_of-self-in-Ok : goal.invariant_of-self-in-Ok
invariant_of-self-in-Ok g c =
    let self = c.args.self.now in
    record {
      sound = after_call memory self.engine c.clone_with.new.engine c.clone_with.result (clients.clone_client c.args.client c.args.now) self.drainers c.clone_with.ensures.does
          (λ world. clone_client_keeps g.P.EventCallback.gives g.C.Callbacks.meanings c.args.client c.args.now world) self.sound;
      labelled = self.labelled;
    }

-- the client isn't held, or no number is left
pub returns-in-Err-clause-refused : goal.returns-in-Err-clause-refused
returns-in-Err-clause-refused g c = c.in-Err.ensures.refused c.args.now
