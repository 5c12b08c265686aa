use Rattle.std.proofs.Common.{◌≡◌, ℕ, ◌<◌, true}
use Rattle.std.specs.Prelude.{slice_index}
use Rattle.sentry_lock.proofs.locked.losses.is_nothing.Given as goal

-- while all were 0, those before the index are
abbrev pub invariant-loop-i : goal.invariant-loop-i
invariant-loop-i l = l.zero ≡ true → (j : ℕ) → j < l.i → slice_index l.losses.quantities j ≡ 0
