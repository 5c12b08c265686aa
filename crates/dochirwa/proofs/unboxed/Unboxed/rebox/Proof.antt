-- A box is put together: the fields are read, and one call has what they own.
use mathlib.Core.Path.{refl}
use mathlib.Core.List.{List, [], ◌∷◌, ◌++◌}
use mir.Syntax.{Args, Fn, a_type, dcons, dnil}
use mir.MapTy.{inst_fn}
use mir.Val.{Val}
use base.Logic.{SProp}
use base.Fml.{ftrue, fsep}
use contract.BorrowLft.{◌⊑◌}
use contract.Monad.{fact}
use contract.Running.{tables}
use prog.Wp.{WpFn}
use types.Kit.{‵, raw, ◌⊛◌, prop, at_ret, ◌$◌, ◌∵◌, !, qed, move, keep, use3, join, split, fsplit, fjoin, regoal, suffices, done}
use types.Part.{whole, sub}
use types.Run.{stop, fld, no_more, and_then, of_opd, first, blocks, exec, returns, enter}
use types.ByLocal.{alloc_all, pass_all, free_all, look_at, get, get_in, sets, lands_last, env}
use denote.Exit.{no}
use denote.Param.{bounded}
use denote.RattleType.{RattleType}
use denote.Signature.{plain}
use denote.Steps.{heard, nothing}
use denote.Triple.Call.{calls_at_last}
use denote.Triple.Clauses.{Ended}
use denote.Triple.Table.{framed}
use denote.Triple.Walked.{says, Stays, stay_dropped, walk_of, ends_at}
use Rattle.std.proofs.alloc.Calls.{Goes-blank}
use Rattle.std.proofs.alloc.Shapes.{after}
use Rattle.std.proofs.raw_atomic.Walks.{proved_at}
use Rattle.std.proofs.BoxSteps.Form.{Bx, D, R, P, B, box_typed}
use Rattle.std.proofs.BoxSteps.Steps.{box_out}
use Rattle.std_alloc.proofs.boxed.Box.from_raw.Met as from_raw
use Rattle.dochirwa.proofs.RawBox.{lent, shuts, shut, shuts_asks, shuts_gives}
use Rattle.dochirwa.specs.contracts.unboxed.Unboxed as unboxed
use Rattle.dochirwa.specs.contracts.unboxed.Unboxed.rebox.{ended, clauses}
use Rattle.dochirwa.specs.contracts.unboxed.Unboxed.rebox.Key as key
use Rattle.dochirwa.proofs.unboxed.Unboxed.rebox.Statement.{statement}
use Rattle.dochirwa.proofs.unboxed.Unboxed.rebox.Code as code

pub rebox_spec : {M : Type 1} → statement M
rebox_spec 𝓤 𝓛 𝓜 𝓡 wired X Z of_X of_Z g d drop_Z allocates destructs =
    let H = 𝓛.H in let 𝓣 = tables 𝓤 H 𝓜 𝓡 𝓡.env in
    let E : Bx = record { row = X; laws = of_X; al = record { row = Z; laws = of_Z; g = g; d = d; drops = drop_Z } } in
    let Held : RattleType = unboxed.the_row (R E) (P E) g in
    let at : Args = bounded (a_type ∷ a_type ∷ []) (X, (Z, tt)) (dcons d (dcons drop_Z dnil)) in
    let fn : Fn = inst_fn at code.function in
    let ends : Ended = ended X Z g d drop_Z in
    let clause = clauses X Z g d drop_Z 𝓛 𝓜.mem 𝓡.returns in
    let stays : Stays ends.signature.params ends.kept = (stay_dropped (plain (λ _. Held)) no, tt) in
    let together = from_raw.met 𝓤 𝓛 𝓜 𝓡 (code.calls-std_alloc::boxed::Box::from_raw 𝓡.env wired) X Z of_X of_Z g d drop_Z allocates destructs in
    proved_at 𝓛 ends stays clause 𝓜 𝓡 (Goes-blank 𝓛 2 (plain (λ _. Held)) no (λ κs x f. tt), tt) (key.name at) fn (code.unfolded 𝓤 H 𝓜 𝓡 wired (X, (Z, tt)) d drop_Z) (λ z are.
    let κ = z.0.0.0 in let ρ = z.0.0.1.0 in let q = z.0.1.0 in let s = z.0.1.1.0 in
    let v : D E = record { ptr = z.0.3.0.at; alloc = z.0.3.0.alloc; value = z.0.3.0.value } in
    let After : Val → SProp 𝓤 = (walk_of 𝓛 ends stays clause).post z in
    qed 𝓛 ((lent κ q ρ s ⊛ ‵ (fsep ((B E).own_val v z.0.4.0) ftrue)) ∷ raw (fact 𝓤 (κ ⊑ X.lives)) ∷ raw (fact 𝓤 (ρ ⊑ Z.lives)) ∷ ‵ ftrue ∷ []) ∵
    move ! (1 ∷ 2 ∷ []) $ heard ! (κ ⊑ X.lives) (λ of_value. heard ! (ρ ⊑ Z.lives) (λ of_alloc. split ! $ move ! (1 ∷ []) $ fsplit ! $
    box_out E ! v z.0.4.0 (λ b o hv at_b is_word fits. fjoin ! $ keep ! (0 ∷ 1 ∷ 3 ∷ []) $
    -- [the value with the right to free it; the handle; the tokens]
    regoal ! (λ (us : List Val). prop (WpFn 𝓤 H 𝓣.C 𝓣.Λ fn (us ++ []) After)) is_word refl $
    enter ! _ _ _ _ _ $ alloc_all ! (λ ls. pass_all ! refl (box_typed E hv b o fits, tt) $
    sets ! (of_opd ! (get_in ! (fld ! refl (stop !)) (sub ! 0 refl (whole !)))) refl (tt, tt) $ sets ! (of_opd ! (get_in ! (fld ! refl (stop !)) (sub ! 1 refl (whole !)))) refl fits $
    first ! $ blocks ! $ sets ! (of_opd ! (get ! refl)) refl fits $
    use3 𝓛 (raw ((shuts E 𝓛 𝓜.mem 𝓡.returns).pre (shut E 𝓛 𝓜.mem 𝓡.returns κ q ρ s v hv b o))) (shuts_asks E 𝓛 𝓜.mem 𝓡.returns κ q ρ s of_value of_alloc v hv b o) $
    calls_at_last ! (framed 𝓤 H 𝓜 𝓣) (shuts E 𝓛 𝓜.mem 𝓡.returns) together (shut E 𝓛 𝓜.mem 𝓡.returns κ q ρ s v hv b o) (and_then ! (get ! refl) (and_then ! (get ! refl) (no_more !))) (λ u.
    shuts_gives E 𝓜.mem 𝓡.returns κ q ρ s ! tt v hv b o u (λ made same typed.
    lands_last ! refl typed $ exec ! 𝓣.C 𝓣.Λ (env fn.locals ls) (after 3 fn.body) (at_ret (env fn.locals ls) After) $ sets ! (of_opd ! (get ! refl)) refl typed $
    returns ! (look_at ! 0 refl) $ free_all ! refl $
    suffices ! _ (ends_at 𝓛 ends stays clause z u made ((tt, (tt, tt)), tt) (tt, tt)) $ says ! same $
    nothing ! $ nothing ! $ fjoin ! $ join ! $ move ! (1 ∷ 0 ∷ []) $ join ! $ done !)))))))
