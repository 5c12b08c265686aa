-- A closed seat is null beside the handle that it was given, and owns no more than that handle.
use mathlib.Core.Path.{refl}
use mathlib.Core.List.{List, [], ◌∷◌, ◌++◌}
use lib.Dec.{T, lit<}
use mir.Val.{Val, vnull, vstruct, vcons, vnil, has_ty, WT}
use base.Logic.{SProp, emp, id⊢}
use base.Fml.{ftrue, fsep}
use contract.Running.{tables}
use prog.Wp.{WpFn}
use types.Kit.{‵, raw, ◌⊛◌, prop, ◌$◌, ◌∵◌, !, qed, move, keep, use1, join, split, fsplit, fjoin, feq_i, fpack, regoal, suffices, done}
use types.Part.{agg}
use types.Run.{no_more, and_then, lit, returns, enter}
use types.ByLocal.{alloc_all, pass_all, free_all, look_at, get, sets}
use denote.Exit.{yes}
use denote.RattleType.{Valss}
use denote.RawPtr.{Ptr, RawPtr, null_ptr, ptr_val}
use denote.Signature.{type_at, plain}
use denote.Steps.{nothing}
use denote.Struct.Owning.{shape}
use denote.Struct.Struct.{within}
use denote.Triple.Walked.{says, Stays, stay_dropped, walk_of, ends_at, Goes-dropped}
use Rattle.std.proofs.alloc.Calls.{handle_tells, α}
use Rattle.std.proofs.raw_atomic.Walks.{proved_at}
use Rattle.std.proofs.BoxSteps.Form.{P, owning, box_ty}
use Rattle.std.specs.Prelude.{None}
use Rattle.std.specs.contracts.alloc.Global as Heap
use Rattle.std_alloc.proofs.ResultValues.{and_tt}
use Rattle.dochirwa.proofs.AsBox.{E}
use Rattle.dochirwa.specs.contracts.seat.Seat.closed.{ended, clauses}
use Rattle.dochirwa.specs.contracts.seat.Seat.closed.Key as key
use Rattle.dochirwa.proofs.seat.Seat.closed.Statement.{statement}
use Rattle.dochirwa.proofs.seat.Seat.closed.Code as code

pub closed_spec : {M : Type 1} → statement M
closed_spec 𝓤 𝓛 𝓜 𝓡 wired =
    let H = 𝓛.H in let 𝓣 = tables 𝓤 H 𝓜 𝓡 𝓡.env in
    let clause = clauses 𝓛 𝓜.mem 𝓡.returns in
    let stays : Stays ended.signature.params ended.kept = (stay_dropped (plain (λ _. Heap.the_row)) yes, tt) in
    proved_at 𝓛 ended stays clause 𝓜 𝓡 (Goes-dropped 𝓛 0 (plain (λ _. Heap.the_row)) yes (λ κs x f. refl), tt) key.name code.function (code.unfolded 𝓤 H 𝓜 𝓡 wired) (λ z are.
    let After : Val → SProp 𝓤 = (walk_of 𝓛 ended stays clause).post z in
    let Made = type_at ended.signature.result tt in
    let alloc = z.0.3.0 in
    let made : Made.Denot = record { at = null_ptr; alloc = alloc; engine = None } in
    qed 𝓛 ((‵ ftrue ⊛ ‵ (fsep ((P E).own_val alloc z.0.4.0) ftrue)) ∷ raw (emp 𝓤) ∷ []) ∵ split ! $ move ! (1 ∷ []) $ fsplit ! $ keep ! (0 ∷ []) $
    handle_tells E.al ! alloc z.0.4.0 (λ hv is_handle fits.
    let word : Val = vstruct (vcons vnull (vcons hv vnil)) in
    let typed : T (has_ty (box_ty E) word) × WT word = (and_tt (has_ty (α E.al) hv) fits.0, (record { fits = lit< tt }, (fits.1, tt))) in
    regoal ! (λ (us : List Val). prop (WpFn 𝓤 H 𝓣.C 𝓣.Λ code.function (us ++ []) After)) is_handle refl $
    enter ! _ _ _ _ _ $ alloc_all ! (λ ls. pass_all ! refl (fits, tt) $ sets ! (agg ! (and_then ! (lit ! tt) (and_then ! (get ! refl) (no_more !)))) refl typed $
    returns ! (look_at ! 0 refl) $ free_all ! refl $
    -- from the innermost part of what the seat owns: what lies at null, the two fields, the word
    feq_i ! Ptr null_ptr null_ptr refl $ nothing ! $ move ! (2 ∷ 0 ∷ []) $ fjoin ! $ feq_i ! (List Val) (vnull ∷ []) (ptr_val null_ptr ∷ []) refl $ fjoin ! $
    feq_i ! (List Val) (word ∷ []) (word ∷ []) refl $ fjoin ! $ fpack ! (Valss (RawPtr ∷ P E ∷ [])) (within (shape (owning E)) (null_ptr, (alloc, tt)) (word ∷ [])) (vnull ∷ [], (hv ∷ [], tt)) $ fjoin ! $
    use1 𝓛 (‵ (Made.own_val made (word ∷ []))) (id⊢ 𝓤 _) $
    suffices ! _ (ends_at 𝓛 ended stays clause z word made (tt, tt) (tt, tt)) $ says ! refl $
    nothing ! $ nothing ! $ fjoin ! $ join ! $ nothing ! $ join ! $ done !)))
