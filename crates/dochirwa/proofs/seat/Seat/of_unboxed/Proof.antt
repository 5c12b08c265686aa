-- What is taken apart becomes a seat: a field each, and what it owns is what the seat owns.
use mathlib.Core.Path.{refl}
use mathlib.Core.List.{List, [], ◌∷◌, ◌++◌}
use mir.Val.{Val}
use base.Logic.{SProp, emp, id⊢}
use base.Fml.{ftrue, fsep}
use contract.Running.{tables}
use prog.Wp.{WpFn}
use types.Kit.{‵, raw, ◌⊛◌, prop, ◌$◌, ◌∵◌, !, qed, move, keep, use1, join, split, fsplit, fjoin, regoal, suffices, done}
use types.Part.{whole, sub, agg}
use types.Run.{stop, fld, no_more, and_then, of_opd, returns, enter}
use types.ByLocal.{alloc_all, pass_all, free_all, look_at, get, get_in, sets}
use denote.Exit.{yes}
use denote.Signature.{type_at}
use denote.Steps.{nothing}
use denote.Triple.Walked.{says, Stays, stay_dropped, walk_of, ends_at, Goes-dropped}
use Rattle.std.proofs.raw_atomic.Walks.{proved_at}
use Rattle.std.proofs.BoxSteps.Form.{D, B, word, box_typed}
use Rattle.std.proofs.BoxSteps.Steps.{box_out, box_in}
use Rattle.std.specs.Prelude.{Some}
use Rattle.dochirwa.proofs.AsBox.{E, FromUnboxed}
use Rattle.dochirwa.specs.contracts.seat.Seat.of_unboxed.{ended, clauses}
use Rattle.dochirwa.specs.contracts.seat.Seat.of_unboxed.Key as key
use Rattle.dochirwa.proofs.seat.Seat.of_unboxed.Statement.{statement}
use Rattle.dochirwa.proofs.seat.Seat.of_unboxed.Code as code

pub of_unboxed_spec : {M : Type 1} → statement M
of_unboxed_spec 𝓤 𝓛 𝓜 𝓡 wired =
    let H = 𝓛.H in let 𝓣 = tables 𝓤 H 𝓜 𝓡 𝓡.env in
    let clause = clauses 𝓛 𝓜.mem 𝓡.returns in
    let stays : Stays ended.signature.params ended.kept = (stay_dropped FromUnboxed yes, tt) in
    proved_at 𝓛 ended stays clause 𝓜 𝓡 (Goes-dropped 𝓛 0 FromUnboxed yes (λ κs x f. refl), tt) key.name code.function (code.unfolded 𝓤 H 𝓜 𝓡 wired) (λ z are.
    let After : Val → SProp 𝓤 = (walk_of 𝓛 ended stays clause).post z in
    let Made = type_at ended.signature.result tt in
    let v : D E = record { ptr = z.0.3.0.at; alloc = z.0.3.0.alloc; value = z.0.3.0.value } in
    let made : Made.Denot = record { at = v.ptr; alloc = v.alloc; engine = Some v.value } in
    qed 𝓛 ((‵ ftrue ⊛ ‵ (fsep ((B E).own_val v z.0.4.0) ftrue)) ∷ raw (emp 𝓤) ∷ []) ∵ split ! $ move ! (1 ∷ []) $ fsplit ! $
    box_out E ! v z.0.4.0 (λ b o hv at_b is_word fits. box_in E ! v b o v.value at_b refl $ keep ! (0 ∷ []) $
    use1 𝓛 (‵ (Made.own_val made (word E hv b o ∷ []))) (id⊢ 𝓤 _) $
    -- [the result, in the bits of the argument]
    regoal ! (λ (us : List Val). prop (WpFn 𝓤 H 𝓣.C 𝓣.Λ code.function (us ++ []) After)) is_word refl $
    enter ! _ _ _ _ _ $ alloc_all ! (λ ls. pass_all ! refl (box_typed E hv b o fits, tt) $
    sets ! (of_opd ! (get_in ! (fld ! refl (stop !)) (sub ! 0 refl (whole !)))) refl (tt, tt) $ sets ! (of_opd ! (get_in ! (fld ! refl (stop !)) (sub ! 1 refl (whole !)))) refl fits $
    sets ! (of_opd ! (get ! refl)) refl (tt, tt) $ sets ! (agg ! (and_then ! (get ! refl) (and_then ! (get ! refl) (no_more !)))) refl (box_typed E hv b o fits) $
    returns ! (look_at ! 0 refl) $ free_all ! refl $
    suffices ! _ (ends_at 𝓛 ended stays clause z (word E hv b o) made (tt, tt) (tt, tt)) $ says ! refl $
    nothing ! $ nothing ! $ fjoin ! $ join ! $ nothing ! $ join ! $ done !)))
