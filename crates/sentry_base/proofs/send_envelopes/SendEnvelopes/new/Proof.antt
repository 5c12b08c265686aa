-- The list goes into the struct.
use Rattle.std.proofs.Common.{◌≡◌, List, [], ◌∷◌, ◌++◌, refl}
use lib.Dec.{T as Holds}
use mir.Syntax.{Ty, Fn}
use mir.Val.{Val, vstruct, vcons, vnil, of_list, has_ty, WT}
use base.Logic.{SProp, emp, id⊢}
use base.Fml.{fsep, ftrue, feq}
use prog.Wp.{WpFn}
use contract.Running.{tables}
use types.Kit.{‵, raw, ◌⊛◌, prop, ◌$◌, ◌∵◌, !, qed, by, move, keep, drop, use0, split, rewrite, regoal, fsplit, fjoin, fpack, feq_i}
use types.Part.{agg}
use types.Run.{of_opd, no_more, and_then, returns, enter}
use types.ByLocal.{alloc_all, pass_all, free_all, look_at, get, sets}
use denote.Exit.{rest}
use denote.Laws.{Typed}
use denote.RattleType.{RattleType, Valss, owns}
use denote.Param.{layout}
use denote.Signature.{types_at, plain}
use denote.Steps.{nothing}
use denote.Triple.Entry.{alive}
use denote.Triple.Walked.{Stays, stay_dropped, walk_of}
use Rattle.std.proofs.alloc.Calls.{Goes-blank}
use Rattle.std.proofs.ResultValues.{and_tt}
use Rattle.std.proofs.raw_atomic.Walks.{proved_at, leaves}
use Rattle.sentry_plain.specs.contracts.items.Items as Items
use Rattle.sentry_plain.proofs.items.Items.TheLaws as items_laws
use Rattle.sentry_base.specs.contracts.protocol.envelope.Envelope as Envelope
use Rattle.sentry_base.proofs.protocol.envelope.Envelope.TheLaws as envelope_laws
use Rattle.sentry_base.specs.contracts.send_envelopes.SendEnvelopes.TheInside as inside
use Rattle.sentry_base.specs.contracts.send_envelopes.SendEnvelopes.new.{ended, clauses}
use Rattle.sentry_base.specs.contracts.send_envelopes.SendEnvelopes.new.Key.{name as #self}
use Rattle.sentry_base.proofs.send_envelopes.SendEnvelopes.new.Statement.{statement}
use Rattle.sentry_base.proofs.send_envelopes.SendEnvelopes.new.Code as code

-- what is one cell is one value
one : (τ : Ty) (vs : List Val) → Typed (τ ∷ []) vs → (v : Val) × ((vs ≡ v ∷ []) × (Holds (has_ty τ v) × WT v))
one τ [] t = absurd t
one τ (v ∷ []) t = (v, (refl, t.0))
one τ (v ∷ w ∷ vs) t = absurd t.1

pub new_spec : {M : Type 1} → statement M
new_spec 𝓤 𝓛 𝓜 𝓡 wired =
    let H = 𝓛.H in let 𝓣 = tables 𝓤 H 𝓜 𝓡 𝓡.env in let En = ended in let c = clauses 𝓛 𝓜.mem 𝓡.returns in
    let fn : Fn = code.function in
    let I : RattleType = Items.the_row Envelope.the_row in let F : RattleType = inside.the_row in
    let LI = items_laws.the_row_laws Envelope.the_row envelope_laws.the_row_laws in
    let hs : Stays En.signature.params En.kept = (stay_dropped (plain (λ _. I)) En.kept.0, tt) in
    proved_at 𝓛 En hs c 𝓜 𝓡 (Goes-blank 𝓛 0 (plain (λ _. I)) En.kept.0 (λ κs x f. tt), tt) #self fn (code.unfolded 𝓤 H 𝓜 𝓡 wired) (λ z are.
    let Post : Val → SProp 𝓤 = (walk_of 𝓛 En hs c).post z in let x : I.Denot = z.0.3.0 in let vss = z.0.4 in
    let got = one (layout I) vss.0 ((LI.lawful 𝓛).typed x vss.0 are.0) in let w : Val = got.0 in let is = got.1.0 in let good = got.1.1 in
    let v : Val = vstruct (vcons w vnil) in
    qed 𝓛 ((raw (alive 𝓛 En.signature z.0.0 z.0.1) ⊛ ‵ (owns (types_at En.signature.params z.0.0) z.0.3 vss)) ∷ raw ((c z.0.0 z.0.3).requires z.1) ∷ []) ∵
    split ! $ keep ! (1 ∷ 0 ∷ []) $ fsplit ! $ move ! (1 ∷ []) $ drop ! $
    rewrite ! 0 (λ (us : List Val). ‵ (I.own_val x us)) is refl $
    regoal ! (λ (us : List Val). prop (WpFn 𝓤 H 𝓣.C 𝓣.Λ fn us Post)) (λ i. is i ++ []) refl $
    enter ! 𝓣.C 𝓣.Λ fn (w ∷ []) Post $ alloc_all ! (λ l. pass_all ! refl (good, tt) $
    sets ! (of_opd ! (get ! refl)) refl good $
    sets ! (agg ! (and_then ! (get ! refl) (no_more !))) refl (and_tt _ (good.0), (good.1, tt)) $
    returns ! (look_at ! 0 refl) $ free_all ! refl $
    nothing ! $ move ! (1 ∷ 0 ∷ []) $ fjoin ! $ feq_i ! (List Val) (v ∷ []) (v ∷ []) refl $ fjoin ! $
    fpack ! (Valss (I ∷ [])) (λ us. fsep (feq (List Val) (v ∷ []) (vstruct (of_list (us.0 ++ [])) ∷ [])) (owns (I ∷ []) (x, tt) us)) (w ∷ [], tt) $
    nothing ! $ move ! (1 ∷ 0 ∷ []) $ fjoin ! $ nothing ! $ move ! (1 ∷ 0 ∷ []) $ fjoin ! $
    fpack ! _ (λ h. fsep (F.own_val h.0 (v ∷ [])) ftrue) (record { envelopes = x }, (refl, tt)) $
    use0 𝓛 (raw (emp 𝓤)) (id⊢ 𝓤 (emp 𝓤)) $ nothing ! $ nothing ! $ fjoin ! $ keep ! (3 ∷ 0 ∷ 2 ∷ 1 ∷ []) $
    by ! (leaves 𝓛 En hs c z v tt (rest (I.exit En.kept.0) x, tt) (tt, tt))))
