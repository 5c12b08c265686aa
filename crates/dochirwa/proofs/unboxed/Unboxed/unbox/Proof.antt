-- A box is taken apart: one call, and its answer is taken field by field.
use mathlib.Core.Path.{refl}
use mathlib.Core.List.{List, [], ◌∷◌, ◌++◌}
use mir.Syntax.{Args, Fn, a_type, dcons, dnil}
use mir.MapTy.{inst_fn}
use mir.Val.{Val}
use base.Logic.{SProp, id⊢}
use base.Fml.{ftrue, fsep}
use contract.BorrowLft.{◌⊑◌}
use contract.Monad.{fact}
use contract.Running.{tables}
use prog.Wp.{WpFn}
use types.Kit.{‵, raw, ◌⊛◌, prop, ◌$◌, ◌∵◌, !, qed, move, keep, use1, use2, join, split, fsplit, fjoin, regoal, suffices, done}
use types.Part.{whole, sub, agg}
use types.Run.{stop, fld, no_more, and_then, of_opd, returns, enter}
use types.ByLocal.{alloc_all, pass_all, free_all, look_at, get, get_in, sets, lands_as}
use denote.Exit.{no}
use denote.Param.{bounded}
use denote.RattleType.{RattleType}
use denote.RawPtr.{block_ptr}
use denote.Signature.{plain}
use denote.Steps.{heard, nothing}
use denote.Triple.Call.{calls_at}
use denote.Triple.Clauses.{Ended}
use denote.Triple.Table.{framed}
use denote.Triple.Walked.{says, Stays, stay_dropped, walk_of, ends_at}
use Rattle.std.proofs.alloc.Calls.{Goes-blank}
use Rattle.std.proofs.raw_atomic.Walks.{proved_at}
use Rattle.std.proofs.BoxSteps.Form.{Bx, R, P, B, word, box_typed}
use Rattle.std.proofs.BoxSteps.Steps.{box_out, box_in}
use Rattle.std_alloc.proofs.boxed.Box.into_raw_with_allocator.Met as into_raw
use Rattle.dochirwa.proofs.RawBox.{lent, opens, opened, opens_asks, opens_gives}
use Rattle.dochirwa.specs.contracts.unboxed.Unboxed as unboxed
use Rattle.dochirwa.specs.contracts.unboxed.Unboxed.unbox.{ended, clauses}
use Rattle.dochirwa.specs.contracts.unboxed.Unboxed.unbox.Key as key
use Rattle.dochirwa.proofs.unboxed.Unboxed.unbox.Statement.{statement}
use Rattle.dochirwa.proofs.unboxed.Unboxed.unbox.Code as code

pub unbox_spec : {M : Type 1} → statement M
unbox_spec 𝓤 𝓛 𝓜 𝓡 wired X Z of_X of_Z g d drop_Z drop_X allocates destructs drops =
    let H = 𝓛.H in let 𝓣 = tables 𝓤 H 𝓜 𝓡 𝓡.env in
    let E : Bx = record { row = X; laws = of_X; al = record { row = Z; laws = of_Z; g = g; d = d; drops = drop_Z } } in
    let Made : RattleType = unboxed.the_row (R E) (P E) g in
    let at : Args = bounded (a_type ∷ a_type ∷ []) (X, (Z, tt)) (dcons d (dcons drop_Z (dcons drop_X dnil))) in
    let fn : Fn = inst_fn at code.function in
    let ends : Ended = ended X Z g d drop_Z drop_X in
    let clause = clauses X Z g d drop_Z drop_X 𝓛 𝓜.mem 𝓡.returns in
    let stays : Stays ends.signature.params ends.kept = (stay_dropped (plain (λ _. B E)) no, tt) in
    let apart = into_raw.met 𝓤 𝓛 𝓜 𝓡 (code.calls-std_alloc::boxed::Box::into_raw_with_allocator 𝓡.env wired) X Z of_X of_Z g d drop_Z drop_X allocates destructs drops in
    proved_at 𝓛 ends stays clause 𝓜 𝓡 (Goes-blank 𝓛 2 (plain (λ _. B E)) no (λ κs x f. tt), tt) (key.name at) fn (code.unfolded 𝓤 H 𝓜 𝓡 wired (X, (Z, tt)) d drop_Z drop_X) (λ z are.
    let κ = z.0.0.0 in let ρ = z.0.0.1.0 in let q = z.0.1.0 in let s = z.0.1.1.0 in let v = z.0.3.0 in
    let After : Val → SProp 𝓤 = (walk_of 𝓛 ends stays clause).post z in
    qed 𝓛 ((lent κ q ρ s ⊛ ‵ (fsep ((B E).own_val v z.0.4.0) ftrue)) ∷ raw (fact 𝓤 (κ ⊑ X.lives)) ∷ raw (fact 𝓤 (ρ ⊑ Z.lives)) ∷ ‵ ftrue ∷ []) ∵
    move ! (1 ∷ 2 ∷ []) $ heard ! (κ ⊑ X.lives) (λ of_value. heard ! (ρ ⊑ Z.lives) (λ of_alloc. split ! $ move ! (1 ∷ []) $ fsplit ! $
    box_out E ! v z.0.4.0 (λ b o hv at_b is_word fits. box_in E ! v b o v.value at_b refl $ keep ! (0 ∷ 2 ∷ []) $
    -- [the box; the tokens]
    regoal ! (λ (us : List Val). prop (WpFn 𝓤 H 𝓣.C 𝓣.Λ fn (us ++ []) After)) is_word refl $
    enter ! _ _ _ _ _ $ alloc_all ! (λ ls. pass_all ! refl (box_typed E hv b o fits, tt) $ sets ! (of_opd ! (get ! refl)) refl (box_typed E hv b o fits) $
    use2 𝓛 (raw ((opens E drop_X 𝓛 𝓜.mem 𝓡.returns).pre (opened E drop_X 𝓛 𝓜.mem 𝓡.returns κ q ρ s v (word E hv b o)))) (opens_asks E drop_X 𝓛 𝓜.mem 𝓡.returns κ q ρ s of_value of_alloc v (word E hv b o)) $
    calls_at ! (framed 𝓤 H 𝓜 𝓣) (opens E drop_X 𝓛 𝓜.mem 𝓡.returns) apart (opened E drop_X 𝓛 𝓜.mem 𝓡.returns κ q ρ s v (word E hv b o)) (and_then ! (get ! refl) (no_more !)) (λ u.
    opens_gives E drop_X 𝓜.mem 𝓡.returns κ q ρ s ! tt v (word E hv b o) u (λ b' o' hw is_pair fits'.
    lands_as ! is_pair refl (box_typed E hw b' o' fits') $
    sets ! (of_opd ! (get_in ! (fld ! refl (stop !)) (sub ! 0 refl (whole !)))) refl (tt, tt) $ sets ! (of_opd ! (get_in ! (fld ! refl (stop !)) (sub ! 1 refl (whole !)))) refl fits' $
    sets ! (of_opd ! (get ! refl)) refl fits' $ sets ! (agg ! (and_then ! (get ! refl) (and_then ! (get ! refl) (no_more !)))) refl (box_typed E hw b' o' fits') $
    returns ! (look_at ! 0 refl) $ free_all ! refl $
    let made : Made.Denot = record { at = block_ptr b' o'; alloc = v.alloc; value = v.value } in
    use1 𝓛 (‵ (Made.own_val made (word E hw b' o' ∷ []))) (id⊢ 𝓤 _) $
    suffices ! _ (ends_at 𝓛 ends stays clause z (word E hw b' o') made ((tt, (tt, tt)), tt) (tt, tt)) $ says ! refl $
    nothing ! $ nothing ! $ fjoin ! $ join ! $ move ! (1 ∷ 0 ∷ []) $ join ! $ done !)))))))
