-- What a seat tells about its pointer.
use Rattle.std.proofs.Common.{◌≡◌, refl, sym, subst, lit<, Bool}
use mathlib.Core.Bool.{true, false}
use mathlib.Core.List.{[], ◌∷◌}
use lib.Dec.{T}
use seplogic.Ra.Ura.{Ura}
use mir.Syntax.{ty_ptr, ptr_eq}
use mir.Val.{vbool, vnull, op2_val, has_ty, WT}
use mir.Raw.{raw as bare}
use base.Fraction.{full_share}
use base.Logic.{ent, via, guard, guard_i, fst∗, snd∗}
use base.Fml.{feq}
use types.Logic.{Logic, sem}
use types.Kit.{‵, ◌$◌, ◌∵◌, !, qed, check, feq_l, feq_i, done}
use contract.Monad.{fact_use}
use denote.Memory.{lone}
use denote.RawPtr.{Ptr, block_ptr, null_ptr, ptr_val, InBlock, Testable, lies_at, lies_in_block}
use Rattle.std.specs.Prelude.{Option, Some, None, is_none}
use Rattle.std.specs.Global.{Global}
use Rattle.std.specs.contracts.impls.GlobalAllocator.TheImpl.{ghosts}
use Rattle.std.proofs.GlobalToken.{dealloc_token-Testable}
use Rattle.dochirwa.specs.Seats.{seat_owns}
use Rattle.c_engine.specs.contracts.outbox_engine.OutboxEngine.{the_row}

-- the pointer is null where there is no engine, and otherwise may be compared with null, and isn't
abbrev pub Told : Option the_row.Denot → Ptr → Type 0
Told None at = at ≡ null_ptr
Told (Some value) at = Testable at × InBlock at

module _ {M : Type 1} {𝓤 : Ura M} (𝓛 : Logic 𝓤) (alloc : Global) (at : Ptr) where
  pub told : (held : Option the_row.Denot) → ent 𝓤 (sem 𝓛 (seat_owns alloc at held)) (guard 𝓤 (Told held at) (sem 𝓛 (seat_owns alloc at held)))
  told None = qed 𝓛 (‵ (feq Ptr at null_ptr) ∷ []) ∵ feq_l ! (λ is. check ! is $ feq_i ! Ptr at null_ptr is $ done !)
  told (Some value) =
      fact_use 𝓤 (Testable at) (via 𝓤 _ (snd∗ 𝓤 (sem 𝓛 (lies_at the_row full_share at value)) (sem 𝓛 (ghosts.dealloc_token alloc (bare (lone the_row.mir)) at))) (dealloc_token-Testable 𝓛 alloc (bare (lone the_row.mir)) at)) (λ may.
      fact_use 𝓤 (InBlock at) (via 𝓤 _ (fst∗ 𝓤 (sem 𝓛 (lies_at the_row full_share at value)) (sem 𝓛 (ghosts.dealloc_token alloc (bare (lone the_row.mir)) at))) (lies_in_block 𝓛 the_row full_share at value)) (λ within.
      guard_i 𝓤 (Told (Some value) at) (sem 𝓛 (seat_owns alloc at (Some value))) (may, within)))

pub typed : (at : Ptr) → T (has_ty ty_ptr (ptr_val at)) × WT (ptr_val at)
typed (block_ptr b o) = (tt, tt)
typed null_ptr = (tt, record { fits = lit< tt })

pub may : (held : Option the_row.Denot) (at : Ptr) → Told held at → Testable at
may None at is = subst Testable (sym is) (lit< tt)
may (Some value) at told = told.0

-- what the comparison with null answers
pub answer : (held : Option the_row.Denot) (at : Ptr) → Told held at → op2_val ptr_eq (ptr_val at) vnull ≡ vbool (is_none held)
answer None (block_ptr b o) is = absurd (subst InBlock is tt)
answer None null_ptr is = refl
answer (Some value) (block_ptr b o) told = refl
answer (Some value) null_ptr told = absurd told.1
