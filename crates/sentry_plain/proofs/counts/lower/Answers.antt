use Rattle.std.proofs.Common.{◌≡◌, ◌∙◌, ap, sym, subst, ℕ, ◌<◌, ◌-◌, List, Some, None, cond, arith}
use Rattle.std.specs.Prelude.{Option, unwrap_or}
use Rattle.std.specs.Ordering.{is_eq, nat_cmp}
use Rattle.sentry_plain.specs.Tables.{value_at, replace_at}
use Rattle.sentry_plain.specs.Counts.{Lowers, count_at}
use Rattle.sentry_plain.proofs.CountLemmas.{count_lowered, count_gone}
use Rattle.sentry_plain.proofs.ChangeLemmas.{changed_same}
use Rattle.sentry_plain.proofs.counts.lower.Goals as goal

-- one less at the number
pub returns-then-count-gt1 : goal.returns-then-count-gt1
returns-then-count-gt1 c =
    let old = c.args.counts.now in
    let k = c.in-Some.number in
    let v = c.in-Some-get_mut.count.now in
    let found : value_at old k ≡ Some v = sym c.in-Some-get_mut.ensures.value in
    let some : 0 < v = let more = c.if-count-gt1.true in omega arith in
    subst (λ (name : Option ℕ). Lowers old (replace_at old k (v - 1)) name) (sym c.in-Some.is)
    (record { each = λ n. count_lowered old k v n found some })

-- the entry goes
pub returns : goal.returns
returns c =
    let old = c.args.counts.now in
    let k = c.in-Some.number in
    let v = c.in-Some-get_mut.count.now in
    let found : value_at old k ≡ Some v = sym c.in-Some-get_mut.ensures.value in
    let there : count_at old k ≡ v = ap (λ (o : Option ℕ). unwrap_or o 0) found in
    let some = c.requires k c.in-Some.is in
    let last = c.if-count-gt1.false in
    let one : v ≡ 1 = omega (arith, there, some, last) in
    subst (λ (name : Option ℕ). Lowers old c.remove.new.self name) (sym c.in-Some.is) (record {
      each = λ n.
          count_gone old c.remove.new.self k 1 n (found ∙ ap Some one)
          (c.remove.ensures.updates n
          ∙ ap (λ (m : List (ℕ × ℕ)). cond (is_eq (nat_cmp k n)) None (value_at m n)) (changed_same old k v found));
    })
