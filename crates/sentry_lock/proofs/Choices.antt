-- What holds in each case of an outcome.
use Rattle.std.proofs.Common.{◌≡◌, subst, sym}
use Rattle.std.specs.Prelude.{Option, Some, Result, Ok, Err, OnOk, OnErr, MatchOption}

-- what became of a value, or its being as it was
pub either_way : {T E X : Type 0} (result : Result T E) (old new placed : X) (Q : X → Type 0) → OnOk result (new ≡ placed)
    → OnErr result (new ≡ old) → Q placed → Q old → Q new
either_way (Ok x) old new placed Q ok err there here = subst Q (sym ok) there
either_way (Err e) old new placed Q ok err there here = subst Q (sym err) here

pub of_some : {X : Type 0} (o : Option X) (x : X) (A : Type 0) (B : X → Type 0) → o ≡ Some x → MatchOption o A B → B x
of_some o x A B e m = subst (λ p. MatchOption p A B) e m
