-- The entries of a map, as its body has them: what is done to one part is done to all.
use Rattle.std.proofs.Common.{◌≡◌, ℕ, zero, suc, ◌+◌, ◌-◌, ◌<◌, ◌≤◌, length, set, Option, Some, None, List, [], ◌∷◌, ◌++◌, sym, ap, ◌∙◌, subst, append-nil, arith, get_or, Result, Ok, Err, IfOk, OnOk, OnErr}
use Rattle.std.proofs.lemmas.Cmp.{nat_list_cmp_total}
use Rattle.std.proofs.lemmas.List.{length-append, set-get_or}
use Rattle.std.specs.List.Sorted.{IsStrictlySortedBy}
use Rattle.std.specs.Map.{keys_of}
use Rattle.std.specs.Option.{SomeIff, is_some}
use Rattle.sentry_plain.proofs.AbsentLemmas.{without_absent}
use Rattle.sentry_plain.proofs.PartLemmas.{at_place, belongs_inside, filled_set, length_set, length_without, put_in, some_put, sorted_part, value_in, without_in}
use Rattle.sentry_plain.proofs.SortedLemmas.{sorted_put, sorted_without}
use Rattle.sentry_plain.specs.EntriesView.{entries_of, InOrder, IsCounted, IsSameBody, HasPut}
use Rattle.sentry_plain.specs.Parts.{joined, AllFilled, Belongs, BelongsAt, part_at}
use Rattle.sentry_plain.specs.Texts.{Bytes, put, text_cmp, value_at, without}
use Rattle.sentry_plain.specs.declared.text_map.entries.Body.{Body}

module _ {V : Type 0} where
  -- the place among the others, where the first part stands apart
  pub apart : (k : Bytes) (first : List (Bytes × V)) (others : List (List (Bytes × V))) (n : ℕ) (r : Option ℕ) → SomeIff r (1 ≤ n) (n - 1) → BelongsAt k (first ∷ others) n → Belongs k first others r
  apart k first others zero None none at = at
  apart k first others (suc n) None none at = absurd (none (omega arith))
  apart k first others zero (Some i) some at = absurd (omega (arith, some.0))
  apart k first others (suc n) (Some i) some at =
      let same : n ≡ i = omega (arith, some.1) in
      subst (λ j. BelongsAt k (first ∷ others) (suc j)) same at

  pub inside : (k : Bytes) (first : List (Bytes × V)) (others : List (List (Bytes × V))) (i : ℕ) → Belongs k first others (Some i) → i < length others
  inside k first others i at = belongs_inside k others i at.1

  -- a body of one part
  pub counted_alone : (body : Body V) (n : ℕ) → body.others.items ≡ [] → IsStrictlySortedBy text_cmp (keys_of body.first) → n ≡ length body.first → IsCounted body n
  counted_alone body n none sorted number =
      let all : entries_of body ≡ body.first = ap (λ (parts : List (List (Bytes × V))). body.first ++ joined parts) none ∙ append-nil body.first in
      record {
        all = record {
          order = subst (λ (m : List (Bytes × V)). IsStrictlySortedBy text_cmp (keys_of m)) (sym all) sorted;
          filled = subst AllFilled (sym none) tt;
        };
        number = number ∙ ap length (sym all);
      }

  -- a part of a body in order is in order
  pub sorted_first : (body : Body V) → InOrder body → IsStrictlySortedBy text_cmp (keys_of body.first)
  sorted_first body all = sorted_part (body.first ∷ body.others.items) zero all.order

  pub sorted_other : (body : Body V) (i : ℕ) → InOrder body → IsStrictlySortedBy text_cmp (keys_of (part_at body.others.items i))
  sorted_other body i all = sorted_part (body.first ∷ body.others.items) (suc i) all.order

  -- the same entries in other parts
  pub same_body : (old new : Body V) → InOrder old → entries_of new ≡ entries_of old → AllFilled new.others.items → IsSameBody old new
  same_body old new all same filled = record {
    same = same;
    all = record { order = subst (λ (m : List (Bytes × V)). IsStrictlySortedBy text_cmp (keys_of m)) (sym same) all.order; filled = filled };
  }

  -- a value is put into the first part
  pub put_first : (old new : Body V) (k : Bytes) (v : V) (more : ℕ) → InOrder old → Belongs k old.first old.others.items None
      → new.first ≡ put old.first k v → new.others.items ≡ old.others.items → length new.first ≡ length old.first + more → more ≤ 1 → HasPut old new k v more
  put_first old new k v more all at here others longer one =
      let entries : entries_of new ≡ put (entries_of old) k v =
      (λ i. here i ++ joined (others i)) ∙ sym (put_in k v (old.first ∷ old.others.items) zero at) in
      record {
        entries = entries;
        all = record {
          order = subst (λ (m : List (Bytes × V)). IsStrictlySortedBy text_cmp (keys_of m)) (sym entries) (sorted_put text_cmp nat_list_cmp_total (entries_of old) k v all.order);
          filled = subst AllFilled (sym others) all.filled;
        };
        number = (λ i. length (new.first ++ joined (others i))) ∙ omega (arith, longer, length-append new.first (joined old.others.items), length-append old.first (joined old.others.items));
        one = one;
      }

  -- a value is put into another part
  pub put_other : (old new : Body V) (k : Bytes) (v : V) (i more : ℕ) (part : List (Bytes × V)) → InOrder old → Belongs k old.first old.others.items (Some i)
      → part ≡ put (part_at old.others.items i) k v → new.first ≡ old.first → new.others.items ≡ set old.others.items i part
      → length part ≡ length (part_at old.others.items i) + more → more ≤ 1 → HasPut old new k v more
  put_other old new k v i more part all at here first others longer one =
      let within : i < length old.others.items = inside k old.first old.others.items i at in
      let set_here : entries_of new ≡ old.first ++ joined (set old.others.items i part) = λ j. first j ++ joined (others j) in
      let entries : entries_of new ≡ put (entries_of old) k v =
      set_here ∙ ap (λ (p : List (Bytes × V)). old.first ++ joined (set old.others.items i p)) here ∙ sym (put_in k v (old.first ∷ old.others.items) (suc i) at) in
      let some : 0 < length part = subst (λ (p : List (Bytes × V)). 0 < length p) (sym here) (some_put (part_at old.others.items i) k v) in
      record {
        entries = entries;
        all = record {
          order = subst (λ (m : List (Bytes × V)). IsStrictlySortedBy text_cmp (keys_of m)) (sym entries) (sorted_put text_cmp nat_list_cmp_total (entries_of old) k v all.order);
          filled = subst AllFilled (sym others) (filled_set old.others.items i part all.filled some);
        };
        number = ap length set_here
            ∙ omega (arith, longer, length_set old.others.items i part within, length-append old.first (joined (set old.others.items i part)), length-append old.first (joined old.others.items));
        one = one;
      }

  -- a value is put in, or not for want of memory
  pub puts_first : {E : Type 0} (r : Result ℕ E) (old new : Body V) (k q : Bytes) (v : V) → InOrder old → q ≡ k → Belongs q old.first old.others.items None
      → OnOk r (new.first ≡ put old.first k v) → IfOk r (λ more. length new.first ≡ length old.first + more) → IfOk r (λ more. more ≤ 1) → OnErr r (new.first ≡ old.first)
      → new.others.items ≡ old.others.items → IfOk r (HasPut old new k v) × OnErr r (IsSameBody old new)
  puts_first (Ok more) old new k q v all named at here longer one kept others =
      (put_first old new k v more all (subst (λ j. Belongs j old.first old.others.items None) named at) here others longer one, tt)
  puts_first (Err e) old new k q v all named at here longer one kept others =
      (tt, same_body old new all (λ i. kept i ++ joined (others i)) (subst AllFilled (sym others) all.filled))

  pub puts_other : {E : Type 0} (r : Result ℕ E) (old new : Body V) (k q : Bytes) (v : V) (i : ℕ) (here part : List (Bytes × V)) → InOrder old → q ≡ k → Belongs q old.first old.others.items (Some i)
      → here ≡ get_or old.others.items i here → OnOk r (part ≡ put here k v) → IfOk r (λ more. length part ≡ length here + more) → IfOk r (λ more. more ≤ 1) → OnErr r (part ≡ here)
      → new.first ≡ old.first → new.others.items ≡ set old.others.items i part → IfOk r (HasPut old new k v) × OnErr r (IsSameBody old new)
  puts_other (Ok more) old new k q v i here part all named at read written longer one kept first others =
      let stands : here ≡ part_at old.others.items i = read ∙ at_place old.others.items i here (inside q old.first old.others.items i at) in
      let put_here : part ≡ put (part_at old.others.items i) k v = written ∙ ap (λ (p : List (Bytes × V)). put p k v) stands in
      let longer_here : length part ≡ length (part_at old.others.items i) + more = longer ∙ ap (λ (p : List (Bytes × V)). length p + more) stands in
      (put_other old new k v i more part all (subst (λ j. Belongs j old.first old.others.items (Some i)) named at) put_here first others longer_here one, tt)
  puts_other (Err e) old new k q v i here part all named at read written longer one kept first others =
      let whole : new.others.items ≡ old.others.items =
      others ∙ ap (set old.others.items i) (kept ∙ read) ∙ set-get_or old.others.items i here in
      (tt, same_body old new all (λ j. first j ++ joined (whole j)) (subst AllFilled (sym whole) all.filled))

  -- a value is removed
  pub order_without : (old new : Body V) (k : Bytes) → InOrder old → entries_of new ≡ without (entries_of old) k → AllFilled new.others.items → InOrder new
  order_without old new k all less filled = record {
    order = subst (λ (m : List (Bytes × V)). IsStrictlySortedBy text_cmp (keys_of m)) (sym less) (sorted_without text_cmp nat_list_cmp_total (entries_of old) k all.order);
    filled = filled;
  }

  pub removes_other : {E : Type 0} (r : Result (Option V) E) (old new : Body V) (k : Bytes) (i : ℕ) → InOrder old → Belongs k old.first old.others.items (Some i)
      → IfOk r (λ value. value ≡ value_at (part_at old.others.items i) k) → OnOk r (joined new.others.items ≡ joined (set old.others.items i (without (part_at old.others.items i) k)))
      → OnErr r (new.others.items ≡ old.others.items) → AllFilled new.others.items → new.first ≡ old.first
      → IfOk r (λ value. value ≡ value_at (entries_of old) k) × (OnOk r (entries_of new ≡ without (entries_of old) k) × (OnOk r (InOrder new) × OnErr r (IsSameBody old new)))
  removes_other (Ok value) old new k i all at valued less kept filled first =
      let rest : entries_of new ≡ without (entries_of old) k =
      (λ j. first j ++ less j) ∙ sym (without_in k (old.first ∷ old.others.items) (suc i) at) in
      (valued ∙ sym (value_in k (old.first ∷ old.others.items) (suc i) at), (rest, (order_without old new k all rest filled, tt)))
  removes_other (Err e) old new k i all at valued less kept filled first =
      (tt, (tt, (tt, same_body old new all (λ j. first j ++ joined (kept j)) filled)))

  -- and counted
  pub counted_same : (old new : Body V) (k : Bytes) (n : ℕ) (o : Option V) → IsCounted old n → o ≡ None → o ≡ value_at (entries_of old) k → entries_of new ≡ without (entries_of old) k → InOrder new → IsCounted new n
  counted_same old new k n o counted none valued rest all = record {
    all = all;
    number = counted.number ∙ ap length (sym (rest ∙ without_absent (entries_of old) k (ap is_some (sym valued ∙ none))));
  }

  pub counted_less : (old new : Body V) (k : Bytes) (n : ℕ) (o : Option V) (v : V) → IsCounted old n → o ≡ Some v → o ≡ value_at (entries_of old) k → entries_of new ≡ without (entries_of old) k → InOrder new → IsCounted new (n - 1)
  counted_less old new k n o v counted some valued rest all =
      let less : length (without (entries_of old) k) + 1 ≡ length (entries_of old) = length_without (entries_of old) k v (sym valued ∙ some) in
      let number : n ≡ length (entries_of old) = counted.number in
      let short : n - 1 ≡ length (without (entries_of old) k) = omega (arith, less, number) in
      record { all = all; number = short ∙ ap length (sym rest) }
