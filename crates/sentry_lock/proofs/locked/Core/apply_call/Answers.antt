use Rattle.sentry_calls.specs.Steps.{step, needs}
use Rattle.sentry_lock.proofs.Keeps.{ordinary_keeps}
use Rattle.sentry_lock.proofs.Silent.{sends_nothing}
use Rattle.sentry_lock.proofs.Sound.{after_call}
use Rattle.sentry_lock.proofs.locked.Core.apply_call.Goals as goal

pub invariant_of-self : goal.invariant_of-self
invariant_of-self g c =
    let self = c.args.self.now in
    record {
      sound = after_call (needs c.args.call) self.engine c.apply.new.self c.apply.result
          (step g.P.EventCallback.gives g.C.Callbacks.meanings c.args.call) self.drainers c.apply.ensures (ordinary_keeps g.P.EventCallback.gives g.C.Callbacks.meanings c.args.call c.requires) self.sound;
      labelled = self.labelled;
    }

pub returns-clause-silent : goal.returns-clause-silent
returns-clause-silent g c =
    let self = c.args.self.now in
    sends_nothing g.P.EventCallback.gives g.C.Callbacks.meanings (needs c.args.call) c.args.call self.engine
    c.apply.new.self c.apply.result self.drainers c.apply.ensures self.sound
