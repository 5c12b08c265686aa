use Rattle.sentry_base.specs.declared.protocol.keys.HubKey.{HubKey}
use Rattle.sentry_calls.specs.Hubs as hubs
use Rattle.sentry_lock.specs.Answers.{LockAnswersWithoutMemory}
use Rattle.std.proofs.Common.{◌≡◌, Bool, false, rules, subst}
use Rattle.sentry_hub.proofs.hub.Hub.active.Goals as goal

pub returns-then-not-branch : goal.returns-then-not-branch
returns-then-not-branch g c =
    let inactive : c.in_ok-is_active.field-0 ≡ false = search rules in
    subst (λ (hub : HubKey). LockAnswersWithoutMemory g.row.L-Processor.Denot g.row.L-Callbacks.Denot g.row.L-Transport.Denot false (hubs.is_active hub)) c.in_ok-hub.ensures
    (subst (λ (b : Bool). LockAnswersWithoutMemory g.row.L-Processor.Denot g.row.L-Callbacks.Denot g.row.L-Transport.Denot b (hubs.is_active c.in_ok-hub.hub)) inactive
    c.in_ok-is_active.ensures.done)
