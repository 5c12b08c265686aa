-- What a box becomes, where a `&mut` to its value is returned.
use Rattle.std.specs.Borrow.{Lends, Fml, RattleType, MutBor}
use Rattle.sentry_plain.specs.contracts.boxed.Boxed.{the_row}

-- when the borrow ends, the box has the last value written through r
abbrev pub lends_boxed : (T : RattleType) → MutBor T.Denot → MutBor T.Denot → Fml
lends_boxed T s r = Lends (the_row T) T s r (λ w. w)
