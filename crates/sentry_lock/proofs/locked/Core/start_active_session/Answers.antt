use Rattle.sentry_calls.specs.Active.{if_active}
use Rattle.sentry_calls.specs.Sessions.{start_session}
use Rattle.sentry_state.specs.Outcomes.{memory}
use Rattle.sentry_lock.proofs.KeepsHubs.{if_active_keeps, start_session_keeps}
use Rattle.sentry_lock.proofs.Sound.{after_call}
use Rattle.sentry_lock.proofs.locked.Core.start_active_session.Goals as goal

-- the call was refused
pub invariant_of-self : goal.invariant_of-self
invariant_of-self g c =
    let self = c.drain_and_make_ready.new.self in
    record {
      sound = after_call memory self.engine c.start_active_session.new.self c.start_active_session.result (if_active c.args.hub (start_session c.args.hub c.args.fresh)) self.drainers c.start_active_session.ensures
          (λ world. if_active_keeps c.args.hub (start_session c.args.hub c.args.fresh) world (start_session_keeps g.P.EventCallback.gives g.C.Callbacks.meanings c.args.hub c.args.fresh world)) self.sound;
      labelled = self.labelled;
    }

-- the call was made
pub invariant_of-self-2 : goal.invariant_of-self-2
invariant_of-self-2 g c =
    let self = c.drain_and_make_ready.new.self in
    record {
      sound = after_call memory self.engine c.start_active_session.new.self c.start_active_session.result (if_active c.args.hub (start_session c.args.hub c.args.fresh)) self.drainers c.start_active_session.ensures
          (λ world. if_active_keeps c.args.hub (start_session c.args.hub c.args.fresh) world (start_session_keeps g.P.EventCallback.gives g.C.Callbacks.meanings c.args.hub c.args.fresh world)) self.sound;
      labelled = self.labelled;
    }
