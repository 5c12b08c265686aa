use Rattle.std.proofs.Common.{◌≡◌, sym, subst, ℕ, ◌+◌, List, Some, None}
use Rattle.std.specs.Prelude.{Option, Result, Ok, Err, OnOk}
use Rattle.sentry_plain.specs.Tables.{value_at, put, replace_at}
use Rattle.sentry_plain.specs.Counts.{Raises}
use Rattle.sentry_plain.proofs.CountLemmas.{count_raised, count_come}
use Rattle.sentry_plain.proofs.ChangeLemmas.{changed_same}
use Rattle.sentry_plain.proofs.counts.raise.Goals as goal

entered : {T E : Type 0} (result : Result T E) (old new : List (ℕ × ℕ)) (k : ℕ) (name : Option ℕ) → name ≡ Some k
    → value_at old k ≡ None → OnOk result (new ≡ put old k 1) → OnOk result (Raises old new name)
entered (Ok x) old new k name is none ok =
    subst (λ (counts : List (ℕ × ℕ)). Raises old counts name) (sym ok)
    (subst (λ (name : Option ℕ). Raises old (put old k 1) name) (sym is) (record { each = λ n. count_come old k 1 n none }))
entered (Err e) old new k name is none ok = tt

-- an entry of 1 comes
pub returns-in_default-get_mut-clause-ok : goal.returns-in_default-get_mut-clause-ok
returns-in_default-get_mut-clause-ok c =
    entered c.insert.result c.args.counts.now c.insert.new.self c.in-Some.number c.args.name c.in-Some.is
    (sym c.in_default-get_mut.ensures.value) c.insert.ensures.ok

-- what stands there is written again
pub returns-in_default-checked_add-clause-err : goal.returns-in_default-checked_add-clause-err
returns-in_default-checked_add-clause-err c =
    changed_same c.args.counts.now c.in-Some.number c.in-Some-get_mut.count.now (sym c.in-Some-get_mut.ensures.value)

-- one more at the number
pub returns-clause-ok : goal.returns-clause-ok
returns-clause-ok c =
    let old = c.args.counts.now in
    let k = c.in-Some.number in
    let v = c.in-Some-get_mut.count.now in
    let found : value_at old k ≡ Some v = sym c.in-Some-get_mut.ensures.value in
    let more : c.in-Some-checked_add.more ≡ v + 1 = c.in-Some-checked_add.ensures.1 in
    subst (λ (w : ℕ). Raises old (replace_at old k w) c.args.name) (sym more)
    (subst (λ (name : Option ℕ). Raises old (replace_at old k (v + 1)) name) (sym c.in-Some.is)
    (record { each = λ n. count_raised old k v n found }))
