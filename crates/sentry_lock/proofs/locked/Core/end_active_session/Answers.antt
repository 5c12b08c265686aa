use Rattle.sentry_calls.specs.Active.{if_active}
use Rattle.sentry_calls.specs.Sessions.{end_session_with_status}
use Rattle.sentry_state.specs.Outcomes.{memory}
use Rattle.sentry_lock.proofs.KeepsHubs.{if_active_keeps, end_session_with_status_keeps}
use Rattle.sentry_lock.proofs.Sound.{after_call}
use Rattle.sentry_lock.proofs.locked.Core.end_active_session.Goals as goal

-- the call was refused
pub invariant_of-self : goal.invariant_of-self
invariant_of-self g c =
    let self = c.drain_and_make_ready.new.self in
    record {
      sound = after_call memory self.engine c.end_active_session.new.self c.end_active_session.result (if_active c.args.hub (end_session_with_status c.args.hub c.args.status c.args.now)) self.drainers c.end_active_session.ensures
          (λ world. if_active_keeps c.args.hub (end_session_with_status c.args.hub c.args.status c.args.now) world (end_session_with_status_keeps g.P.EventCallback.gives g.C.Callbacks.meanings c.args.hub c.args.status c.args.now world)) self.sound;
      labelled = self.labelled;
    }

-- the call was made
pub invariant_of-self-2 : goal.invariant_of-self-2
invariant_of-self-2 g c =
    let self = c.drain_and_make_ready.new.self in
    record {
      sound = after_call memory self.engine c.end_active_session.new.self c.end_active_session.result (if_active c.args.hub (end_session_with_status c.args.hub c.args.status c.args.now)) self.drainers c.end_active_session.ensures
          (λ world. if_active_keeps c.args.hub (end_session_with_status c.args.hub c.args.status c.args.now) world (end_session_with_status_keeps g.P.EventCallback.gives g.C.Callbacks.meanings c.args.hub c.args.status c.args.now world)) self.sound;
      labelled = self.labelled;
    }
