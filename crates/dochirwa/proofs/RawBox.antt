-- The two calls at which a box becomes its pointer and a pointer a box: what goes into each, and what comes back. Assumes `Logic`.
--     lent             the tokens of the two type parameters
--     opens, opens_asks, opens_gives     `Box::into_raw_with_allocator`
--     shuts, shuts_asks, shuts_gives     `Box::from_raw`
use mathlib.Core.Path.{◌≡◌, refl, sym, subst, ap, ◌∙◌}
use Prim.Native.Nat.{ℕ}
use mathlib.Core.List.{List, [], ◌∷◌, ◌++◌}
use lib.Dec.{T}
use seplogic.Ra.Ura.{Ura}
use mir.Syntax.{Dict}
use mir.Raw.{raw as bare}
use mir.Val.{Val, vptr, vstruct, of_list, has_ty, WT}
use base.Logic.{SProp, ent, emp, id⊢, never, fst∗}
use base.Fml.{Lft, Share, ftrue, fsep, flft}
use contract.BorrowLft.{◌⊑◌}
use contract.Monad.{Fun, fact, fact_i}
use prog.Memory.{Memory}
use prog.Routine.{Routine}
use types.Logic.{Logic, sem}
use types.Kit.{Goal, Soaks, Seq, Item, ⋆, ‵, raw, ◌⊛◌, some, later, ◌$◌, ◌∵◌, !, qed, move, drop, use0, use1, join, split, pick, rewrite, fsplit, fjoin, fpick, feq_i, feq_l, await, done}
use denote.RawPtr.{Ptr, RawPtr, block_ptr, null_ptr, ptr_val, in_a_block}
use denote.Steps.{heard, nothing, only}
use denote.Struct.Tuple.{Tuple}
use denote.Triple.Spec.{triple_of}
use denote.Triple.Statement.{Contract}
use Rattle.std.proofs.alloc.Calls.{token, Fits, handle_tells}
use Rattle.std.specs.Box.Ownership.{box_owns}
use Rattle.std.proofs.BoxSteps.Form.{Bx, D, τ, R, P, B, box_ty, handle, word, box_typed}
use Rattle.std.proofs.BoxSteps.Steps.{box_out, box_in}
use Rattle.std_alloc.specs.contracts.boxed.Box.into_raw_with_allocator as into_raw
use Rattle.std_alloc.specs.contracts.boxed.Box.from_raw as from_raw

abbrev pub lent : {M : Type 1} {𝓤 : Ura M} → Lft → Share → Lft → Share → Item 𝓤
lent κ q ρ s = ‵ (flft κ q) ⊛ ‵ (flft ρ s) ⊛ ‵ ftrue

module _ (E : Bx) (dx : Dict) {M : Type 1} {𝓤 : Ura M} (𝓛 : Logic 𝓤) (at_mem : Memory → SProp 𝓤) (run : Routine → Fun 𝓤) where
  abbrev pub opens : Contract 𝓤
  opens = triple_of 𝓛 (into_raw.signature E.row E.al.row E.al.g E.al.d E.al.drops dx) (into_raw.spec E.row E.al.row E.al.g E.al.d E.al.drops dx 𝓛 at_mem run)

  module _ (κ : Lft) (q : Share) (ρ : Lft) (s : Share) where
    abbrev pub opened : D E → Val → opens.Ghost
    opened d w = (((κ, (ρ, tt)), (q, (s, tt)), tt, (d, tt), (w ∷ [], tt)), tt)

    pub opens_asks : κ ⊑ E.row.lives → ρ ⊑ E.al.row.lives → (d : D E) (w : Val) → ent 𝓤 (⋆ 𝓛 (‵ ((B E).own_val d (w ∷ [])) ∷ lent κ q ρ s ∷ [])) (opens.pre (opened d w))
    opens_asks of_value of_alloc d w =
        qed 𝓛 (‵ ((B E).own_val d (w ∷ [])) ∷ lent κ q ρ s ∷ []) ∵ nothing ! $ move ! (1 ∷ 0 ∷ []) $ fjoin ! $ move ! (1 ∷ 0 ∷ []) $ join ! $
        nothing ! $ use0 𝓛 (raw (fact 𝓤 (ρ ⊑ E.al.row.lives))) (fact_i 𝓤 (ρ ⊑ E.al.row.lives) (emp 𝓤) of_alloc) $ join ! $
        use0 𝓛 (raw (fact 𝓤 (κ ⊑ E.row.lives))) (fact_i 𝓤 (κ ⊑ E.row.lives) (emp 𝓤) of_value) $ join ! $ move ! (1 ∷ 0 ∷ []) $ join ! $ done !

module _ (E : Bx) {M : Type 1} {𝓤 : Ura M} (𝓛 : Logic 𝓤) (at_mem : Memory → SProp 𝓤) (run : Routine → Fun 𝓤) where
  abbrev pub shuts : Contract 𝓤
  shuts = triple_of 𝓛 (from_raw.signature E.row E.al.row E.al.g E.al.d E.al.drops) (from_raw.spec E.row E.al.row E.al.g E.al.d E.al.drops 𝓛 at_mem run)

  module _ (κ : Lft) (q : Share) (ρ : Lft) (s : Share) where
    abbrev pub shut : D E → Val → ℕ → ℕ → shuts.Ghost
    shut d hv b o = (((κ, (ρ, tt)), (q, (s, tt)), tt, (d.alloc, (block_ptr b o, tt)), (hv ∷ [], (vptr b o ∷ [], tt))), d.value)

    pub shuts_asks : κ ⊑ E.row.lives → ρ ⊑ E.al.row.lives → (d : D E) (hv : Val) (b o : ℕ)
        → ent 𝓤 (⋆ 𝓛 (‵ (box_owns (token E.al d.alloc) (R E) (block_ptr b o) d.value) ∷ ‵ (handle E d.alloc hv) ∷ lent κ q ρ s ∷ [])) (shuts.pre (shut d hv b o))
    shuts_asks of_value of_alloc d hv b o =
        qed 𝓛 (‵ (box_owns (token E.al d.alloc) (R E) (block_ptr b o) d.value) ∷ ‵ (handle E d.alloc hv) ∷ lent κ q ρ s ∷ []) ∵
        use0 𝓛 (raw (fact 𝓤 (ρ ⊑ E.al.row.lives))) (fact_i 𝓤 (ρ ⊑ E.al.row.lives) (emp 𝓤) of_alloc) $ join ! $
        use0 𝓛 (raw (fact 𝓤 (κ ⊑ E.row.lives))) (fact_i 𝓤 (κ ⊑ E.row.lives) (emp 𝓤) of_value) $ join ! $
        nothing ! $ feq_i ! (List Val) (vptr b o ∷ []) (vptr b o ∷ []) refl $ fjoin ! $ move ! (2 ∷ 0 ∷ []) $ fjoin ! $ move ! (2 ∷ 0 ∷ []) $ join ! $ join ! $ done !

module _ (E : Bx) (dx : Dict) {M : Type 1} {𝓤 : Ura M} {𝓛 : Logic 𝓤} (at_mem : Memory → SProp 𝓤) (run : Routine → Fun 𝓤) (κ : Lft) (q : Share) (ρ : Lft) (s : Share) {K : Type 0} {Γ : List (Item 𝓤)} {G : Goal 𝓤 𝓛.H} where
  -- the pair of pointer and handle lies as the box did
  pub opens_gives : K → Soaks G → (d : D E) (w u : Val)
      → ((b o : ℕ) (hv : Val) → u ≡ word E hv b o → Fits E.al hv → Seq K 𝓛 (‵ ((B E).own_val (record { ptr = block_ptr b o; alloc = d.alloc; value = d.value }) (word E hv b o ∷ [])) ∷ lent κ q ρ s ∷ Γ) G)
      → Seq K 𝓛 (raw ((opens E dx 𝓛 at_mem run).post (opened E dx 𝓛 at_mem run κ q ρ s d w) u) ∷ Γ) G
  opens_gives t soaks d w u next =
      let Pair = Tuple (RawPtr ∷ P E ∷ []) in
      use1 𝓛 (later (some (λ (r : Pair.Denot). (lent κ q ρ s ⊛ ‵ (Pair.own_val r (u ∷ []))) ⊛ some (λ (_ : (Unit {0} × (Unit {0} × Unit {0})) × Unit {0}). ‵ (fsep (fsep ftrue (fsep ftrue ftrue)) ftrue)
      ⊛ (raw (fact 𝓤 (r.1 ≡ d.alloc)) ⊛ ‵ (box_owns (token E.al d.alloc) (R E) r.0 d.value)))))) (id⊢ 𝓤 _) $ await t soaks $ pick t (λ r. split t $ split t $ move t (2 ∷ []) $ pick t (λ _. split t $ drop t $ split t $
      heard t (r.1 ≡ d.alloc) (λ kept. in_a_block t r.0 (λ p. box_owns (token E.al d.alloc) (R E) p d.value) (fst∗ 𝓤 (never 𝓤) (sem 𝓛 (token E.al d.alloc (bare (τ E)) null_ptr))) (λ b o at.
      -- [what the box owns on the heap; the tokens; the pair]
      fsplit t $ move t (3 ∷ []) $ fpick t (λ words. fsplit t $ feq_l t (λ as_pair. fsplit t $ feq_l t (λ as_ptr. fsplit t $
      rewrite t 0 (λ (a : E.al.row.Denot). ‵ (E.al.row.own_val a words.1.0)) kept refl $ handle_tells E.al t d.alloc words.1.0 (λ hv as_handle fits. move t (1 ∷ []) $ drop t $ move t (1 ∷ 2 ∷ 0 ∷ []) $
      box_in E t (record { ptr = block_ptr b o; alloc = d.alloc; value = d.value }) b o d.value refl refl $
      next b o hv (ap only as_pair ∙ ap (λ (ps : List Val). vstruct (of_list (ps ++ (words.1.0 ++ [])))) (as_ptr ∙ ap (λ (p : Ptr). ptr_val p ∷ []) at) ∙ ap (λ (hs : List Val). vstruct (of_list (vptr b o ∷ (hs ++ [])))) as_handle) fits))))))))

module _ (E : Bx) {M : Type 1} {𝓤 : Ura M} {𝓛 : Logic 𝓤} (at_mem : Memory → SProp 𝓤) (run : Routine → Fun 𝓤) (κ : Lft) (q : Share) (ρ : Lft) (s : Share) {K : Type 0} {Γ : List (Item 𝓤)} {G : Goal 𝓤 𝓛.H} where
  -- a box of the same value, whichever its pointer is
  pub shuts_gives : K → Soaks G → (d : D E) (hv : Val) (b o : ℕ) (u : Val)
      → ((made : D E) → made.value ≡ d.value → T (has_ty (box_ty E) u) × WT u → Seq K 𝓛 (‵ ((B E).own_val made (u ∷ [])) ∷ lent κ q ρ s ∷ Γ) G)
      → Seq K 𝓛 (raw ((shuts E 𝓛 at_mem run).post (shut E 𝓛 at_mem run κ q ρ s d hv b o) u) ∷ Γ) G
  shuts_gives t soaks d hv b o u next =
      use1 𝓛 (later (some (λ (r : D E). (lent κ q ρ s ⊛ ‵ ((B E).own_val r (u ∷ []))) ⊛ some (λ (_ : Unit {0} × (Unit {0} × Unit {0})). ‵ (fsep ftrue (fsep ftrue ftrue)) ⊛ (raw (fact 𝓤 (r.value ≡ d.value)) ⊛ raw (fact 𝓤 (r.alloc ≡ d.alloc))))))) (id⊢ 𝓤 _) $
      await t soaks $ pick t (λ made. split t $ split t $ move t (2 ∷ []) $ pick t (λ _. split t $ drop t $ split t $ heard t (made.value ≡ d.value) (λ same. drop t $ move t (1 ∷ []) $
      box_out E t made (u ∷ []) (λ b' o' hv' at is_word fits. box_in E t made b' o' made.value at refl $ rewrite t 0 (λ (us : List Val). ‵ ((B E).own_val made us)) (sym is_word) refl $
      next made same (subst (λ (x : Val). T (has_ty (box_ty E) x) × WT x) (sym (ap only is_word)) (box_typed E hv' b' o' fits))))))
