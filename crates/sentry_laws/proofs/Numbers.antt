-- The next numbers are free.
use Rattle.std.proofs.Common.{◌≡◌, ◌<◌, refl, ℕ, List, arith}
use Rattle.std.specs.Prelude.{Option, Some, None, Result}
use Rattle.sentry_plain.specs.Tables.{value_at}
use Rattle.sentry_base.specs.Callbacks.{Partial}
use Rattle.sentry_base.specs.declared.protocol.refusal.Refusal.{Refusal}
use Rattle.sentry_options.specs.Meanings.{Meanings}
use Rattle.sentry_state.specs.declared.state.Out.{Out}
use Rattle.sentry_state.specs.Worlds.{World, starting_world}
use Rattle.sentry_calls.specs.Runs.{Run}
use Rattle.sentry_calls.specs.declared.call.Call.{Call}
use Rattle.sentry_calls.specs.declared.call.Reply.{Reply}
use Rattle.sentry_laws.specs.Reachable.{IsFreeFrom, NumbersAreFree}
use Rattle.sentry_laws.proofs.Tables.{AreBelow}
use Rattle.sentry_laws.proofs.Numbered.{IsNumbered, numbered_change, none_numbered}
use Rattle.sentry_laws.proofs.Keeping.{kept_by_run}
use Rattle.sentry_laws.proofs.Found.{found_below}

-- what stands under increasing numbers below the next one
pub free_from : {X : Type 0} (next : ℕ) (table : List (ℕ × X)) → AreBelow 0 next table → IsFreeFrom next table
free_from {X} next table below number high = by_found (value_at table number) refl
  where
    by_found : (o : Option X) → value_at table number ≡ o → o ≡ None
    by_found None e = refl
    by_found (Some x) e = let low : number < next = found_below 0 next number table x below e in absurd
        (omega (arith, low, high))

module _ {P C : Type 0} (gives : P → Partial) (meanings : C → Meanings) where
  pub numbers_are_free : (tag start : ℕ) (calls : List (Call P C)) (answers : List (Result (Out (Reply P C)) Refusal))
      (last : World P C)
      → Run gives meanings (starting_world tag start) calls answers last → NumbersAreFree last
  numbers_are_free tag start calls answers last run =
      let h = kept_by_run gives meanings IsNumbered (λ given old new some sent c. numbered_change meanings c)
      calls answers (starting_world tag start) last run (none_numbered tag start) in (
        free_from last.next.client last.clients h.clients,
        free_from last.next.hub last.hubs h.hubs,
        free_from last.next.session last.sessions h.sessions,
        free_from last.next.transaction last.transactions h.transactions,
        free_from last.next.span last.spans h.spans,
      )
