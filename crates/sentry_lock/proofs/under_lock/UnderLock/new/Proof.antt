-- The core goes into the struct, which owns nothing beside it.
use Rattle.std.proofs.Common.{◌≡◌, List, [], ◌∷◌, ◌++◌, refl, Option, Some, None}
use lib.Dec.{T as Holds}
use mir.Syntax.{Ty, Fn, a_type}
use mir.MapTy.{inst_fn}
use mir.Val.{Val, vstruct, vcons, vnil, of_list, has_ty, WT}
use base.Logic.{SProp, emp, id⊢}
use base.Fml.{fsep, ftrue, feq}
use prog.Wp.{WpFn}
use contract.Running.{tables}
use types.Kit.{‵, raw, ◌⊛◌, prop, ◌$◌, ◌∵◌, !, qed, by, move, keep, drop, use0, split, rewrite, regoal, fsplit, fjoin, fpack, feq_i}
use types.Part.{agg}
use types.Run.{of_opd, no_more, and_then, returns, enter}
use types.ByLocal.{alloc_all, pass_all, free_all, look_at, get, sets}
use denote.Exit.{rest, left, Last}
use denote.Param.Mute.{blank}
use denote.Laws.{Typed}
use denote.RattleType.{RattleType, Valss, owns}
use denote.Param.{param, layout, layouts}
use denote.Param.Laws.{param_laws}
use denote.Signature.{types_at, plain}
use denote.Steps.{nothing}
use denote.Triple.Entry.{alive}
use denote.Triple.Walked.{Stays, stay_dropped, walk_of}
use Rattle.std.proofs.alloc.Calls.{Goes-blank}
use Rattle.std.proofs.ResultValues.{and_tt}
use Rattle.std.proofs.raw_atomic.Walks.{proved_at, leaves}
use Rattle.sentry_lock.specs.contracts.locked.Core as Core
use Rattle.sentry_lock.proofs.locked.Core.TheLaws as core_laws
use Rattle.sentry_lock.specs.contracts.under_lock.UnderLock.TheInside as inside
use Rattle.sentry_lock.specs.contracts.under_lock.UnderLock.new.{ended, clauses}
use Rattle.sentry_lock.specs.contracts.under_lock.UnderLock.new.Key.{name as #self}
use Rattle.sentry_lock.proofs.under_lock.UnderLock.new.Statement.{statement}
use Rattle.sentry_lock.proofs.under_lock.UnderLock.new.Code as code

-- what is one cell is one value
one : (τ : Ty) (vs : List Val) → Typed (τ ∷ []) vs → (v : Val) × ((vs ≡ v ∷ []) × (Holds (has_ty τ v) × WT v))
one τ [] t = absurd t
one τ (v ∷ []) t = (v, (refl, t.0))
one τ (v ∷ w ∷ vs) t = absurd t.1

-- what holds where a share lies ready, and where none does, holds in any case
by_ready : {A : Type 0} (Q : Option A → Type 0) → Q None → ((a : A) → Q (Some a)) → (ready : Option A) → Q ready
by_ready Q none some None = none
by_ready Q none some (Some a) = some a

pub new_spec : {M : Type 1} → statement M
new_spec 𝓤 𝓛 𝓜 𝓡 wired P C T LP LC LT =
    let H = 𝓛.H in let 𝓣 = tables 𝓤 H 𝓜 𝓡 𝓡.env in let En = ended P C T in let c = clauses P C T 𝓛 𝓜.mem 𝓡.returns in
    let inst = layouts (a_type ∷ a_type ∷ a_type ∷ []) (P, (C, (T, tt))) in let fn : Fn = inst_fn inst code.function in
    let I : RattleType = Core.the_row (param 0 P) (param 1 C) (param 2 T) in let F : RattleType = inside.the_row (param 0 P) (param 1 C) (param 2 T) in
    let LI = core_laws.the_row_laws (param 0 P) (param 1 C) (param 2 T) (param_laws 0 P LP) (param_laws 1 C LC) (param_laws 2 T LT) in
    let hs : Stays En.signature.params En.kept = (stay_dropped (plain (λ _. I)) En.kept.0, tt) in
    proved_at 𝓛 En hs c 𝓜 𝓡 (
      Goes-blank 𝓛 3 (plain (λ _. I)) En.kept.0 (λ κs x f.
          let E = ((plain {n = 3} (λ _. I)).row κs).exit En.kept.0 in
          by_ready (λ ready. (w : Last E (record x { routes = record x.routes { ready = ready } })) → Holds (blank (left E (record x { routes = record x.routes { ready = ready } }) w)))
          (λ w. tt) (λ share w. tt) x.routes.ready f),
      tt,
    ) (#self inst) fn (code.unfolded 𝓤 H 𝓜 𝓡 wired (P, (C, (T, tt)))) (λ z are.
    let Post : Val → SProp 𝓤 = (walk_of 𝓛 En hs c).post z in let x : I.Denot = z.0.3.0 in let vss = z.0.4 in
    let got = one (layout I) vss.0 ((LI.lawful 𝓛).typed x vss.0 are.0) in let w : Val = got.0 in let is = got.1.0 in let good = got.1.1 in
    let v : Val = vstruct (vcons w vnil) in
    qed 𝓛 ((raw (alive 𝓛 En.signature z.0.0 z.0.1) ⊛ ‵ (owns (types_at En.signature.params z.0.0) z.0.3 vss)) ∷ raw ((c z.0.0 z.0.3).requires z.1) ∷ []) ∵
    split ! $ keep ! (1 ∷ 0 ∷ []) $ fsplit ! $ move ! (1 ∷ []) $ drop ! $
    rewrite ! 0 (λ (us : List Val). ‵ (I.own_val x us)) is refl $
    regoal ! (λ (us : List Val). prop (WpFn 𝓤 H 𝓣.C 𝓣.Λ fn us Post)) (λ i. is i ++ []) refl $
    enter ! 𝓣.C 𝓣.Λ fn (w ∷ []) Post $ alloc_all ! (λ l. pass_all ! refl (good, tt) $
    sets ! (of_opd ! (get ! refl)) refl good $
    sets ! (agg ! (and_then ! (get ! refl) (no_more !))) refl (and_tt _ (good.0), (good.1, tt)) $
    returns ! (look_at ! 0 refl) $ free_all ! refl $
    nothing ! $ move ! (1 ∷ 0 ∷ []) $ fjoin ! $ feq_i ! (List Val) (v ∷ []) (v ∷ []) refl $ fjoin ! $
    fpack ! (Valss (I ∷ [])) (λ us. fsep (feq (List Val) (v ∷ []) (vstruct (of_list (us.0 ++ [])) ∷ [])) (owns (I ∷ []) (x, tt) us)) (w ∷ [], tt) $
    nothing ! $ move ! (1 ∷ 0 ∷ []) $ fjoin ! $ nothing ! $ move ! (1 ∷ 0 ∷ []) $ fjoin ! $
    fpack ! _ (λ h. fsep (F.own_val h.0 (v ∷ [])) ftrue) (record { core = x }, (refl, tt)) $
    use0 𝓛 (raw (emp 𝓤)) (id⊢ 𝓤 (emp 𝓤)) $ nothing ! $ nothing ! $ fjoin ! $ keep ! (3 ∷ 0 ∷ 2 ∷ 1 ∷ []) $
    by ! (leaves 𝓛 En hs c z v x (rest (I.exit En.kept.0) x, tt) (tt, tt))))
