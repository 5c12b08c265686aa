use Rattle.std.proofs.Common.{◌≡◌, sym, subst, ℕ, ◌<◌, ◌-◌, ap, Some}
use Rattle.std.specs.Prelude.{Option, unwrap_or}
use Rattle.sentry_plain.specs.Tables.{value_at, replace_at}
use Rattle.sentry_plain.specs.Counts.{Lowers, count_at}
use Rattle.sentry_plain.proofs.CountLemmas.{count_lowered}
use Rattle.sentry_state.proofs.session_table.lower_entry.Goals as goal

-- one less at the number
pub returns : goal.returns
returns c =
    let old = c.args.counts.now in
    let k = c.in-Some.number in
    let v = c.in-Some-get_mut.count.now in
    let found : value_at old k ≡ Some v = sym c.in-Some-get_mut.ensures.value in
    let there : count_at old k ≡ v = ap (λ (o : Option ℕ). unwrap_or o 0) found in
    let some : 0 < v = subst (λ (m : ℕ). 0 < m) there (c.requires k c.in-Some.is) in
    subst (λ (name : Option ℕ). Lowers old (replace_at old k (v - 1)) name) (sym c.in-Some.is)
    (record { each = λ n. count_lowered old k v n found some })
