-- The walk over the labels.
use Rattle.std.proofs.Common.{◌≡◌, ◌+◌, refl, ap, ◌∙◌, sym, subst, ℕ, List, [], ◌∷◌, Bool, true, false, cond, ◌&&◌, Ordering, Less, Equal, Greater, length, arith, inl, inr}
use Rattle.std.specs.Prelude.{Option, Some, None}
use Rattle.std.specs.Option.{IsSomeAnd}
use Rattle.std.specs.BTreeMap.Range.{range_contains}
use Rattle.std.specs.Ordering.{nat_cmp, is_eq, is_lt}
use Rattle.std.specs.declared.ops.Bound.TheVariants.{Unbounded}
use Rattle.sentry_plain.specs.Tables.{above, entries_after, replace_at}
use Rattle.sentry_base.specs.declared.protocol.keys.Label.{Label}
use Rattle.sentry_client_reports.specs.LossCounts.{CountedPart}
use Rattle.sentry_state.specs.declared.state.State.{State}
use Rattle.sentry_lock.specs.Words.{Drainers}
use Rattle.sentry_lock.specs.Locked.{DrainsEach, DrainsIfOpen, DrainsNext}

abbrev is_after : ℕ → ℕ → Bool
is_after n m = range_contains nat_cmp (above (Some n)) Unbounded m

module _ {X : Type 0} where
  -- the value that is replaced is that of the first entry, which isn't above itself
  after_here : (n : ℕ) (x : X) (e : ℕ × X) (es : List (ℕ × X)) → nat_cmp n e.0 ≡ Equal
      → entries_after (Some n) (replace_at (e ∷ es) n x) ≡ entries_after (Some n) (e ∷ es)
  after_here n x e es is =
      let rest = entries_after (Some n) es in
      let out : is_after n e.0 ≡ false = ap (λ r. is_lt r && true) is in
      ap (λ (b : Bool). entries_after (Some n) (cond b ((e.0, x) ∷ es) (e ∷ replace_at es n x))) (ap is_eq is)
      ∙ (ap (λ (b : Bool). cond b ((e.0, x) ∷ rest) rest) out ∙ sym (ap (λ (b : Bool). cond b (e ∷ rest) rest) out))

  -- or that of a later one
  after_there : (n : ℕ) (x : X) (e : ℕ × X) (es : List (ℕ × X)) → is_eq (nat_cmp n e.0) ≡ false
      → entries_after (Some n) (replace_at es n x) ≡ entries_after (Some n) es
      → entries_after (Some n) (replace_at (e ∷ es) n x) ≡ entries_after (Some n) (e ∷ es)
  after_there n x e es is rest =
      ap (λ (b : Bool). entries_after (Some n) (cond b ((e.0, x) ∷ es) (e ∷ replace_at es n x))) is
      ∙ ap (λ (more : List (ℕ × X)). cond (is_after n e.0) (e ∷ more) more) rest

  after_replaced_by : (n : ℕ) (x : X) (e : ℕ × X) (es : List (ℕ × X)) (r : Ordering) → nat_cmp n e.0 ≡ r
      → entries_after (Some n) (replace_at es n x) ≡ entries_after (Some n) es
      → entries_after (Some n) (replace_at (e ∷ es) n x) ≡ entries_after (Some n) (e ∷ es)
  after_replaced_by n x e es Less is rest = after_there n x e es (ap is_eq is) rest
  after_replaced_by n x e es Equal is rest = after_here n x e es is
  after_replaced_by n x e es Greater is rest = after_there n x e es (ap is_eq is) rest

  -- another value at a number leaves what is above it
  pub after_replaced : (n : ℕ) (x : X) (es : List (ℕ × X))
      → entries_after (Some n) (replace_at es n x) ≡ entries_after (Some n) es
  after_replaced n x [] = refl
  after_replaced n x (e ∷ es) = after_replaced_by n x e es (nat_cmp n e.0) refl (after_replaced n x es)

  -- all are above none
  pub after_none : (es : List (ℕ × X)) → entries_after None es ≡ es
  after_none [] = refl
  after_none (e ∷ es) = ap (λ (more : List (ℕ × X)). e ∷ more) (after_none es)

  -- nothing is left where as many were passed as there were
  pub none_left : (es : List X) (passed total : ℕ) → length es + passed ≡ total → passed ≡ total → es ≡ []
  none_left [] passed total sum is = refl
  none_left (e ∷ es) passed total sum is = absurd (omega arith)

module _ {P C : Type 0} where
  -- it leaves the labels above its own
  same_after : (label : Label) (old new : State P C) (drainers drained : Drainers)
      → DrainsIfOpen label old new drainers drained
      → entries_after (Some label.number) drained ≡ entries_after (Some label.number) drainers
  same_after label old new drainers drained (inl drains) =
      let one = drains.1.1.0 in
      ap (entries_after (Some label.number)) one.others ∙ after_replaced label.number (Some one.after) drainers
  same_after label old new drainers drained (inr nothing) = ap (entries_after (Some label.number)) nothing.2

  pub drains_next : (tag : ℕ) (last : Option ℕ) (number : ℕ) (old new : State P C) (drainers drained : Drainers)
      (slot : Option (Option CountedPart))
      → IsSomeAnd slot (λ value. entries_after last drainers ≡ (number, value) ∷ entries_after (Some number) drainers)
      → DrainsIfOpen (record { tag = tag; number = number }) old new drainers drained
      → DrainsNext tag last number old new drainers drained
  drains_next tag last number old new drainers drained None first drains = absurd first
  drains_next tag last number old new drainers drained (Some slot) first drains = record {
    slot = slot;
    next = first ∙ ap (λ (rest : Drainers). (number, slot) ∷ rest)
        (sym (same_after (record { tag = tag; number = number }) old new drainers drained drains));
    drains = drains;
  }

  -- what is left to be drained leads to the whole
  abbrev pub Leads : ℕ → Option ℕ → State P C → State P C → Drainers → Drainers → Type 0
  Leads tag last start engine first drainers =
      (new : State P C) (drained : Drainers)
      → DrainsEach tag (entries_after last drainers) engine new drainers drained
      → DrainsEach tag first start new first drained

  pub leads_first : (tag : ℕ) (start : State P C) (first : Drainers) → Leads tag None start start first first
  leads_first tag start first new drained each =
      subst (λ entries. DrainsEach tag entries start new first drained) (after_none first) each

  pub leads_on : (tag : ℕ) (last : Option ℕ) (number : ℕ) (start engine next : State P C) (first drainers left : Drainers)
      → Leads tag last start engine first drainers → DrainsNext tag last number engine next drainers left
      → Leads tag (Some number) start next first left
  leads_on tag last number start engine next first drainers left leads one new drained rest =
      leads new drained
      (subst (λ entries. DrainsEach tag entries engine new drainers drained) (sym one.next)
      (next, left, one.drains, rest))

  pub leads_to_end : (tag : ℕ) (last : Option ℕ) (start engine new : State P C) (first drainers drained : Drainers)
      → Leads tag last start engine first drainers → entries_after last drainers ≡ [] → new ≡ engine
      → drained ≡ drainers → DrainsEach tag first start new first drained
  leads_to_end tag last start engine new first drainers drained leads none same kept =
      leads new drained
      (subst (λ entries. DrainsEach tag entries engine new drainers drained) (sym none) (same, kept))

  -- one more is passed
  pub one_less : (tag : ℕ) (last : Option ℕ) (number passed total : ℕ) (engine next : State P C) (drainers left : Drainers)
      → DrainsNext tag last number engine next drainers left → length (entries_after last drainers) + passed ≡ total
      → length (entries_after (Some number) left) + (passed + 1) ≡ total
  one_less tag last number passed total engine next drainers left one sum =
      let longer = ap length one.next in omega arith
