-- The order of counts of sessions: by the minute, and then by the distinct id, none first.
use Rattle.std.specs.Prelude.{ℕ, Option}
use Rattle.std.specs.Option.{option_cmp}
use Rattle.std.specs.Ordering.{nat_cmp, ordering_then, eq_by_cmp}
use Rattle.std.specs.Cmp.{IsTotalOrder, IsEquivalence, on_total, then_total, nat_cmp_total, eq_by_cmp_equiv}
use Rattle.std.specs.Cmp.Lexicographic.{options_total, nat_list_cmp_total}
use Rattle.std.specs.declared.cmp.Ordering.{Ordering}
use Rattle.sentry_plain.specs.Texts.{Bytes, text_cmp}

abbrev pub minute_cmp : ℕ × Option Bytes → ℕ × Option Bytes → Ordering
minute_cmp a b = ordering_then (nat_cmp a.0 b.0) (option_cmp text_cmp a.1 b.1)

pub minute_cmp_total : IsTotalOrder minute_cmp
minute_cmp_total =
    then_total (on_total (λ p. p.0) nat_cmp_total) (on_total (λ p. p.1) (options_total nat_list_cmp_total))

-- of what has a minute and a distinct id
pub same_minute_equiv : {K : Type 0} (read : K → ℕ × Option Bytes)
    → IsEquivalence (λ (x y : K). eq_by_cmp minute_cmp (read x) (read y))
same_minute_equiv {K} read =
    eq_by_cmp_equiv {K = K} {R = λ x y. minute_cmp (read x) (read y)} (on_total read minute_cmp_total)
