-- What comes to the trail of a hub.
use Rattle.std.specs.Prelude.{◌≡◌, ◌⊎◌, List, Result, Ok}
use Rattle.sentry_base.specs.declared.protocol.breadcrumb.Breadcrumb.{Breadcrumb}
use Rattle.sentry_base.specs.declared.protocol.keys.HubKey.{HubKey}
use Rattle.sentry_base.specs.declared.protocol.refusal.Refusal.{Refusal}
use Rattle.sentry_base.specs.declared.protocol.refusal.Refusal.TheVariants.{OutOfMemory}
use Rattle.sentry_lock.specs.Answers.{LockAnswers, LockRefuses}
use Rattle.sentry_options.specs.Meanings.{Meanings}
use Rattle.sentry_state.specs.Breadcrumbs.{add_breadcrumbs}

module _ {B C : Type 0} (P T : Type 0) (may_be : B → List Breadcrumb → Type 0) (meanings : C → Meanings) where
  -- a core that the lock held added breadcrumbs that this value may be
  abbrev pub Adds : HubKey → B → Type 0
  Adds hub value =
      (list : List Breadcrumb) × may_be value list × LockAnswers P C T tt (add_breadcrumbs meanings hub list)

  -- a core that the lock held refused such breadcrumbs, or memory ran out before it
  abbrev pub AddsNot : HubKey → B → Refusal → Type 0
  AddsNot hub value refusal =
      (refusal ≡ OutOfMemory)
      ⊎ ((list : List Breadcrumb) × may_be value list × LockRefuses P C T refusal (add_breadcrumbs meanings hub list))

  -- the same of a value that a closure made, or it made none
  module _ {E : Type 0} (makes : Result B E → Type 0) where
    abbrev pub AddsMade : HubKey → Type 0
    AddsMade hub = (value : B) × makes (Ok value) × Adds hub value

    abbrev pub AddsNotMade : HubKey → Refusal → Type 0
    AddsNotMade hub refusal =
        (refusal ≡ OutOfMemory) ⊎ ((value : B) × makes (Ok value) × AddsNot hub value refusal)
