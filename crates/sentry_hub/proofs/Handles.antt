-- What was answered for a key is answered for the same key.
use Rattle.std.proofs.Common.{◌≡◌, subst, inr}
use Rattle.std.specs.Prelude.{◌⊎◌, Result, Ok, Err, IfOk, IfErr, OnOk}

module _ {A E K : Type 0} where
  -- or nothing is named
  pub done_for : (N : A → Type 0) (Q : K → A → Type 0) (key same : K) → key ≡ same → (r : Result A E) → IfOk r (Q key)
      → IfOk r (λ reply. N reply ⊎ Q same reply)
  done_for N Q key same is (Ok reply) did = inr (subst (λ (k : K). Q k reply) is did)
  done_for N Q key same is (Err e) did = did

  pub refused_for : (Q : K → E → Type 0) (key same : K) → key ≡ same → (r : Result A E) → IfErr r (Q key)
      → IfErr r (Q same)
  refused_for Q key same is (Ok reply) did = did
  refused_for Q key same is (Err e) did = subst (λ (k : K). Q k e) is did

  -- or memory ran out before
  pub refused_or : (N : E → Type 0) (Q : K → E → Type 0) (key same : K) → key ≡ same → (r : Result A E) → IfErr r (Q key)
      → IfErr r (λ e. N e ⊎ Q same e)
  refused_or N Q key same is (Ok reply) did = did
  refused_or N Q key same is (Err e) did = inr (subst (λ (k : K). Q k e) is did)

-- or nothing is named
pub done_or : {A E : Type 0} (N Q : Type 0) (r : Result A E) → OnOk r Q → OnOk r (N ⊎ Q)
done_or N Q (Ok reply) did = inr did
done_or N Q (Err e) did = did
