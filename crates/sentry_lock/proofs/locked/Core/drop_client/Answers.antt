use Rattle.sentry_calls.specs.Clients as clients
use Rattle.sentry_lock.proofs.Keeps.{drop_client_keeps}
use Rattle.sentry_lock.proofs.Sound.{after_handed}
use Rattle.sentry_lock.proofs.locked.Core.drop_client.Goals as goal

pub invariant_of-self : goal.invariant_of-self
invariant_of-self g c =
    let self = c.drain_each_label.new.self in
    record {
      sound = after_handed self.engine c.drop_with.new.engine c.drop_with.result (λ handed. handed.out) (clients.drop_client c.args.client) self.drainers
          c.drop_with.ensures.done c.drop_with.ensures.refused
          (λ world. drop_client_keeps g.P.EventCallback.gives g.C.Callbacks.meanings c.args.client world) self.sound;
      labelled = self.labelled;
    }
