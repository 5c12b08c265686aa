-- A seat of an engine, and an engine's box taken apart, own what the box owns.
use mir.Syntax.{impl, tnil, dnil}
use mathlib.Core.List.{List, [], ◌∷◌}
use mathlib.Core.Path.{refl}
use seplogic.Ra.Ura.{Ura}
use mir.Val.{Val}
use types.Logic.{Logic}
use types.Kit.{Goal, Seq, Item, ‵}
use denote.Signature.{Slot, plain}
use Rattle.std.proofs.BoxSteps.Form.{Bx, B}
use Rattle.std.specs.contracts.alloc.Global as Heap
use Rattle.std.specs.contracts.impls.GlobalAllocator.TheImpl.{ghosts, dict}
use Rattle.std_heap.proofs.Global.TheLaws as heap
use Rattle.c_engine.specs.contracts.outbox_engine.OutboxEngine as OutboxEngine
use Rattle.c_engine.proofs.outbox_engine.OutboxEngine.TheLaws as engine
use Rattle.std.specs.Prelude.{◌≡◌, Option, Some, None, is_some, true}
use Rattle.dochirwa.specs.contracts.unboxed.Unboxed as Unboxed
use Rattle.dochirwa.specs.contracts.seat.Seat as Seat

abbrev pub E : Bx
E = record { row = OutboxEngine.the_row; laws = engine.the_row_laws; al = record { row = Heap.the_row; laws = heap.the_row_laws; g = ghosts; d = dict; drops = impl [] tnil dnil } }

abbrev pub FromUnboxed : Slot 0
FromUnboxed = plain (λ _. Unboxed.the_row OutboxEngine.the_row Heap.the_row ghosts)

abbrev pub FromSeat : Slot 0
FromSeat = plain (λ _. Seat.the_row)

-- what is there is taken as it is
pub by_some : {T : Type 0} (G : Option T → Type 1) (held : Option T) → is_some held ≡ true → ((x : T) → G (Some x)) → G held
by_some G None is go = absurd cc
by_some G (Some x) is go = go x

-- a seat of an engine is a box of it
pub is_box : {M : Type 1} {𝓤 : Ura M} {𝓛 : Logic 𝓤} {K : Type 0} {Γ : List (Item 𝓤)} {G : Goal 𝓤 𝓛.H} → K → (s : Seat.the_row.Denot) (vs : List Val) → is_some s.engine ≡ true
    → ((x : OutboxEngine.the_row.Denot) → s.engine ≡ Some x → Seq K 𝓛 (‵ ((B E).own_val (record { ptr = s.at; alloc = s.alloc; value = x }) vs) ∷ Γ) G) → Seq K 𝓛 (‵ (Seat.the_row.own_val s vs) ∷ Γ) G
is_box {𝓛 = 𝓛} {K = K} {Γ = Γ} {G = G} t s vs is =
    by_some (λ held. ((x : OutboxEngine.the_row.Denot) → held ≡ Some x → Seq K 𝓛 (‵ ((B E).own_val (record { ptr = s.at; alloc = s.alloc; value = x }) vs) ∷ Γ) G)
    → Seq K 𝓛 (‵ (Seat.the_row.own_val (record { at = s.at; alloc = s.alloc; engine = held }) vs) ∷ Γ) G) s.engine is (λ x next. next x refl)
