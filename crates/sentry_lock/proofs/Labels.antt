-- The labels of the drainers, after each thing that is done under the lock.
use Rattle.std.proofs.Common.{◌≡◌, refl, ap, ◌∙◌, sym, ℕ, List, [], Bool, true, false}
use Rattle.std.specs.Prelude.{Option, Some, None, ◌==◌, if◌then◌else◌}
use Rattle.std.specs.Ordering.{is_eq, nat_cmp}
use Rattle.sentry_plain.proofs.NumberLemmas.{same_number}
use Rattle.sentry_plain.specs.Tables.{value_at, put, replace_at}
use Rattle.sentry_base.specs.declared.protocol.keys.Label.{Label}
use Rattle.sentry_client_reports.specs.LossCounts.{CountedPart}
use Rattle.sentry_laws.proofs.Found.{found_put, found_replaced}
use Rattle.sentry_lock.specs.Words.{Drainers, AreLabelled, DrainsOne, EndsWords}

labelled_at : (b : Bool) (tag number n : ℕ) (slot : Option CountedPart) (drainer : CountedPart)
    (o : Option (Option CountedPart)) → (n == number) ≡ b
    → ((d : CountedPart) → slot ≡ Some d → d.part.label ≡ record { tag = tag; number = number })
    → (o ≡ Some (Some drainer) → drainer.part.label ≡ record { tag = tag; number = n })
    → (if b then Some slot else o) ≡ Some (Some drainer)
    → drainer.part.label ≡ record { tag = tag; number = n }
labelled_at true tag number n slot drainer o e own is at =
    let same : slot ≡ Some drainer = cc in
    let here : n ≡ number = same_number n number e in
    own drainer same ∙ (λ i. record { tag = tag; number = sym here i })
labelled_at false tag number n slot drainer o e own is at = is at

pub labelled_after_drain : (tag number : ℕ) (old new : Drainers) (quantities : List ℕ)
    → DrainsOne old new number quantities → AreLabelled tag old → AreLabelled tag new
labelled_after_drain tag number old new quantities one are n drainer at =
    labelled_at (n == number) tag number n (Some one.after) drainer (value_at old n) refl
    (λ d is. let same : one.after ≡ d = cc in
    ap (λ (p : CountedPart). p.part.label) (sym same) ∙ (one.label ∙ are number one.before one.found))
    (are n drainer)
    (sym (found_replaced old number n (Some one.after) (Some one.before) one.found)
    ∙ (ap (λ table. value_at table n) (sym one.others) ∙ at))

pub labelled_after_end : (tag number : ℕ) (old new : Drainers) (quantities : List ℕ)
    → EndsWords old new number quantities → AreLabelled tag old → AreLabelled tag new
labelled_after_end tag number old new quantities ends are n drainer at =
    labelled_at (n == number) tag number n None drainer (value_at old n) refl (λ d is. absurd cc) (are n drainer)
    (sym (found_replaced old number n None (Some ends.before) ends.found)
    ∙ (ap (λ table. value_at table n) (sym ends.others) ∙ at))

pub labelled_after_place : (tag number : ℕ) (drainers : Drainers) → AreLabelled tag drainers
    → AreLabelled tag (put drainers number None)
labelled_after_place tag number drainers are n drainer at =
    labelled_at (n == number) tag number n None drainer (value_at drainers n) refl (λ d is. absurd cc) (are n drainer)
    (sym (found_put drainers number n None) ∙ at)

pub labelled_after_new : (tag number : ℕ) (drainers : Drainers) (new : CountedPart)
    → value_at drainers number ≡ Some None → new.part.label ≡ record { tag = tag; number = number }
    → AreLabelled tag drainers → AreLabelled tag (replace_at drainers number (Some new))
labelled_after_new tag number drainers new place is are n drainer at =
    labelled_at (n == number) tag number n (Some new) drainer (value_at drainers n) refl
    (λ d same. let one : new ≡ d = cc in ap (λ (p : CountedPart). p.part.label) (sym one) ∙ is)
    (are n drainer) (sym (found_replaced drainers number n (Some new) None place) ∙ at)

pub own_label : (label : Label) (tag : ℕ) → label.tag ≡ tag → label ≡ record { tag = tag; number = label.number }
own_label label tag e = λ i. record { tag = e i; number = label.number }

-- what is found after a removal was there
pub was_there : (number : ℕ) (old new : Drainers)
    → ((n : ℕ) → value_at new n ≡ (if is_eq (nat_cmp number n) then None else value_at old n))
    → (n : ℕ) (slot : Option CountedPart) → value_at new n ≡ Some slot → value_at old n ≡ Some slot
was_there number old new updates n slot at = there (is_eq (nat_cmp number n)) (sym (updates n) ∙ at)
  where
    there : (b : Bool) → (if b then None else value_at old n) ≡ Some slot → value_at old n ≡ Some slot
    there true e = absurd cc
    there false e = e

pub labelled_with_fewer : (tag : ℕ) (drainers fewer : Drainers)
    → ((n : ℕ) (slot : Option CountedPart) → value_at fewer n ≡ Some slot → value_at drainers n ≡ Some slot)
    → AreLabelled tag drainers → AreLabelled tag fewer
labelled_with_fewer tag drainers fewer there are n drainer at = are n drainer (there n (Some drainer) at)

pub none_labelled : (tag : ℕ) (drainers : Drainers) → drainers ≡ [] → AreLabelled tag drainers
none_labelled tag drainers none n drainer at =
    absurd (let e : value_at [] n ≡ Some (Some drainer) = ap (λ table. value_at table n) (sym none) ∙ at in cc)
