-- The engine of a seat is lent. The borrow of the seat stays open meanwhile, and with whatever engine comes back there is a seat again.
use mathlib.Core.Path.{◌≡◌, refl}
use Prim.Native.Nat.{ℕ}
use mathlib.Core.List.{List, [], ◌∷◌}
use seplogic.Ra.Ura.{Ura}
use base.Fraction.{full_share}
use base.Fml.{Fml, GName, ftrue, fsep, flft}
use base.Logic.{SProp, ent, sep, id⊢}
use mir.Raw.{raw as bare}
use mir.Syntax.{named}
use mir.Val.{Val, vptr}
use contract.Monad.{fact}
use contract.Running.{tables}
use types.Logic.{Logic, sem}
use types.Kit.{‵, raw, ◌⊛◌, some, later, at_ret, ◌$◌, ◌∵◌, !, qed, move, keep, use1, split, split3, join, pick, await, rewrite, fsplit, fsplit3, fjoin, fpack, suffices, frame, group, done}
use types.Part.{whole, sub, look_in}
use types.Run.{stop, fld, load, addr, of_opd, first, blocks, exec, returns, enter}
use types.ByLocal.{alloc_all, pass_all, free_all, look_at, get, through, sets, sets_last, env}
use denote.Exit.{no}
use denote.Follow.{follows, lends_Part}
use denote.Memory.{part_at, mem, cell_at, part_of}
use denote.RattleType.{owns}
use denote.RawPtr.{block_ptr}
use denote.Ref.{MutRef, mut_vals, mut_Tells}
use denote.Signature.{plain, mut_ref_to}
use denote.Steps.{heard, nothing, opens}
use denote.Triple.Walked.{says, Stays, stay_dropped, walk_of, ends_at, Goes-spent_ref}
use Rattle.std.proofs.alloc.Calls.{token}
use Rattle.std.proofs.raw_atomic.Walks.{proved}
use Rattle.std.proofs.BoxSteps.Form.{X, R, D, τ, word, handle}
use Rattle.std.proofs.BoxSteps.Steps.{box_out, box_in}
use Rattle.std.specs.Prelude.{is_some, true}
use Rattle.dochirwa.specs.SeatFollows.{with_engine}
use Rattle.dochirwa.specs.contracts.seat.Seat.{the_row}
use Rattle.dochirwa.specs.contracts.seat.Seat.lend.{ended, clauses}
use Rattle.dochirwa.specs.contracts.seat.Seat.lend.Key as key
use Rattle.dochirwa.proofs.AsBox.{E, is_box}
use Rattle.dochirwa.proofs.seat.Seat.lend.Statement.{statement}
use Rattle.dochirwa.proofs.seat.Seat.lend.Code as code

module _ (held : the_row.Denot) (seat_block seat_offset b o : ℕ) (hv : Val) where
  -- a seat at this place whose engine is away
  abbrev emptied : Fml
  emptied = fsep (token E.al held.alloc (bare (τ E)) (block_ptr b o)) (fsep (handle E held.alloc hv) (cell_at full_share the_row.mir (word E hv b o ∷ []) seat_block seat_offset))

  refilled : held.at ≡ block_ptr b o → {M : Type 1} {𝓤 : Ura M} (𝓛 : Logic 𝓤) (w : X E) → ent 𝓤 (sep 𝓤 (sem 𝓛 ((mem (R E)).own_at w b o)) (sem 𝓛 emptied)) (sem 𝓛 ((mem the_row).own_at (with_engine held w) seat_block seat_offset))
  unfolding part_of
  refilled at_b {𝓤 = 𝓤} 𝓛 w =
      qed 𝓛 (‵ (part_at (R E) full_share w b o) ∷ ‵ emptied ∷ []) ∵ move ! (1 ∷ []) $ fsplit ! $ move ! (1 ∷ []) $ fsplit ! $ move ! (3 ∷ 2 ∷ 0 ∷ []) $
      -- [the engine; the right to free it; the handle; the seat's word]
      box_in E ! (record { ptr = held.at; alloc = held.alloc; value = w }) b o w at_b refl $ use1 𝓛 (‵ (the_row.own_val (with_engine held w) (word E hv b o ∷ []))) (id⊢ 𝓤 _) $ move ! (1 ∷ []) $ fjoin ! $
      fpack ! (List Val) (λ us. fsep (cell_at full_share the_row.mir us seat_block seat_offset) (the_row.own_val (with_engine held w) us)) (word E hv b o ∷ []) $ done !

pub lend_spec : {M : Type 1} → statement M
lend_spec 𝓤 𝓛 𝓜 𝓡 wired =
    let H = 𝓛.H in let 𝓣 = tables 𝓤 H 𝓜 𝓡 𝓡.env in
    let clause = clauses 𝓛 𝓜.mem 𝓡.returns in
    let stays : Stays ended.signature.params ended.kept = (stay_dropped (mut_ref_to (0 ∷ []) tt (plain (λ _. the_row))) no, tt) in
    proved 𝓛 ended stays clause 𝓜 𝓡 (Goes-spent_ref 𝓛 1 (0 ∷ []) tt (plain (λ _. the_row)), tt) key.name code.function (code.unfolded 𝓤 H 𝓜 𝓡 wired)
    (λ κs. (mut_vals, tt)) (λ κs. (mut_Tells (named 0) κs.0 the_row, tt)) (λ κs qs bounds a _ are.
    let κ = κs.0 in let q = qs.0 in let r = a.0 in let held = r.now in let m = r.ref_ptr.0 in let n = r.ref_ptr.1 in let γ = r.ghost_name in
    let z : (walk_of 𝓛 ended stays clause).Ghost = ((κs, qs, bounds, a, (mut_vals r, tt)), tt) in
    let After : Val → SProp 𝓤 = (walk_of 𝓛 ended stays clause).post z in
    qed 𝓛 (((‵ (flft κ q) ⊛ ‵ ftrue) ⊛ ‵ (owns (MutRef (named 0) κ the_row ∷ []) (r, tt) (mut_vals r, tt))) ∷ raw (fact 𝓤 (is_some held.engine ≡ true)) ∷ []) ∵ move ! (1 ∷ []) $
    heard ! (is_some held.engine ≡ true) (λ open'. split ! $ split ! $ move ! (2 ∷ []) $ fsplit ! $ fsplit3 ! $ move ! (1 ∷ 2 ∷ 4 ∷ []) $ keep ! (0 ∷ 1 ∷ 2 ∷ []) $
    enter ! _ _ _ _ _ $ alloc_all ! (λ ls. pass_all ! refl ((tt, tt), tt) $
    opens ! tt the_row {h = held} m n (λ vs. move ! (1 ∷ []) $ is_box ! held vs open' (λ x is_x.
    let v : D E = record { ptr = held.at; alloc = held.alloc; value = x } in
    box_out E ! v vs (λ b o hv at_b is_word fits. rewrite ! 3 (λ (us : List Val). ‵ (cell_at full_share the_row.mir us m n)) is_word refl $
    -- [the engine; the right to free it; the handle; the seat's word; the open borrow, in three entries]
    first ! $ blocks ! $ sets ! (of_opd ! (load ! (through ! refl (fld ! refl (stop !))) (look_in ! 3 (sub ! 0 refl (whole !))))) refl (tt, tt) $
    sets ! (of_opd ! (get ! refl)) refl (tt, tt) $ sets_last ! (addr ! (through ! refl (stop !))) refl (tt, tt) $
    exec ! 𝓣.C 𝓣.Λ (env code.Mir.locals ls) code.Mir.t-2 (at_ret (env code.Mir.locals ls) After) $ sets ! (of_opd ! (get ! refl)) refl (tt, tt) $
    move ! (2 ∷ 3 ∷ []) $ fjoin ! $ move ! (2 ∷ 0 ∷ []) $ fjoin ! $ move ! (2 ∷ 3 ∷ 4 ∷ 1 ∷ 0 ∷ []) $ group ! 5 $
    use1 𝓛 (later (some (λ (γ' : GName). ‵ ((MutRef (named 0) κ (R E)).own_val (record { ref_ptr = (b, o); ghost_name = γ'; now = x }) (vptr b o ∷ [])) ⊛ ‵ (flft κ q) ⊛ ‵ (follows the_row (R E) γ γ' (with_engine held)))))
    (lends_Part 𝓛 the_row (R E) (with_engine held) (named 0) κ q m n b o γ (sem 𝓛 (emptied held m n b o hv)) (refilled held m n b o hv at_b 𝓛) (the_row.coded.code held) (the_row.coded.code held) x) $
    await ! tt $ pick ! (λ γ'. split3 ! $ returns ! (look_at ! 0 refl) $ free_all ! refl $ keep ! (0 ∷ 1 ∷ 2 ∷ []) $
    -- [the loan; the token; what ties the seat to the loan]
    suffices ! _ (ends_at 𝓛 ended stays clause z (vptr b o) (record { ref_ptr = (b, o); ghost_name = γ'; now = x }) (tt, tt) (tt, tt)) $
    nothing ! $ nothing ! $ fjoin ! $ join ! $ nothing ! $ move ! (2 ∷ 0 ∷ []) $ join ! $ join ! $ frame ! $ says ! is_x $ done !)))))))
