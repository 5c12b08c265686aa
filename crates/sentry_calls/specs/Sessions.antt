-- What the calls on sessions answer, hand out and leave.
use Rattle.std.specs.Prelude.{ℕ, Some, []}
use Rattle.sentry_base.specs.declared.protocol.fresh.Fresh.{Fresh}
use Rattle.sentry_base.specs.declared.protocol.keys.HubKey.{HubKey}
use Rattle.sentry_base.specs.declared.protocol.refusal.Refusal.TheVariants.{Stale, Full}
use Rattle.sentry_base.specs.declared.protocol.session.SessionStatus.{SessionStatus}
use Rattle.sentry_sessions.specs.Sessions.{start_of}
use Rattle.sentry_state.specs.Worlds.{World}
use Rattle.sentry_state.specs.Outcomes.{Outcome, require_some, require, let_some, reply_with, hub_at, stored_client_at}
use Rattle.sentry_sending.specs.Sending.{reply_sending, end_session, replace_session}
use Rattle.sentry_state.specs.Changes.{is_session_number_left}

module _ {P C : Type 0} where
  -- a session of the top layer's client, which needs a release, else nothing changes
  unfoldable pub start_session : HubKey → Fresh → World P C → Outcome P C (Unit {0})
  start_session key fresh world =
      require_some Stale world (hub_at world key) (λ hub.
      let_some hub.stack.top.client (reply_with tt [] world) (λ client_key.
      let_some (stored_client_at world client_key) (reply_with tt [] world) (λ client.
      let_some client.session_attributes (reply_with tt [] world) (λ attributes.
      require Full world (is_session_number_left world)
      (reply_sending tt (replace_session key.number hub fresh.now
      (start_of client_key attributes hub.stack.top.scope.user fresh.uuid fresh.now) world))))))

  -- the session of the top layer ends with this status, for every layer that names it
  unfoldable pub end_session_with_status : HubKey → SessionStatus → ℕ → World P C → Outcome P C (Unit {0})
  end_session_with_status key status now world =
      require_some Stale world (hub_at world key) (λ hub.
      let_some hub.stack.top.session (reply_with tt [] world) (λ session.
      reply_sending tt (end_session session (Some status) now world)))
