-- What a closure does to the scope of a hub.
use Rattle.std.specs.Prelude.{◌≡◌, ℕ, [], Result, Ok}
use Rattle.std.specs.Fn.{Once}
use Rattle.sentry_base.specs.declared.protocol.keys.HubKey.{HubKey}
use Rattle.sentry_calls.specs.Hubs as hubs
use Rattle.sentry_lock.specs.Answers.{LockAnswers, LockDrainsAndAnswers}
use Rattle.sentry_lock.specs.declared.scope_edits.ScopeEdits.{ScopeEdits}
use Rattle.sentry_scope.specs.declared.scope.Scope.{Scope}
use denote.Ref.{MutBor}

module _ {F A E P : Type 0} (C T : Type 0)
    (g : Once F (MutBor (ScopeEdits P) × Unit {0}) (Result A E × (MutBor (ScopeEdits P) × Unit {0}))) where
  -- the closure, lent this scope without an edit, gave this answer, and a core that the lock held made its edits
  pub record Configures (configure : F) (hub : HubKey) (now : ℕ) (scope : Scope P) (answer : A) : Type 0 where
    pub lent : MutBor (ScopeEdits P)
    pub left : MutBor (ScopeEdits P)
    pub shows : lent.now.scope ≡ scope
    pub begins : lent.now.edits ≡ []
    pub met : g.post configure (lent, tt) (Ok answer, (left, tt))
    pub done : LockDrainsAndAnswers P C T tt (hubs.configure hub left.now.edits now)

  -- the same of the scope that a core had which the lock held
  abbrev pub ConfiguresTop : F → HubKey → ℕ → A → Type 0
  ConfiguresTop configure hub now answer =
      (scope : Scope P) × LockAnswers P C T scope (hubs.scope hub) × Configures configure hub now scope answer
