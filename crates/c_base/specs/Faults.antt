-- Why a call failed, by its number.
use Rattle.std.specs.Prelude.{ℕ, Option, Some, None, Result, Ok, Err, List, [], ◌∷◌, slice_get}
use Rattle.std.specs.Option.{unwrap_or}
use Rattle.sentry_base.specs.declared.protocol.refusal.Refusal.{Refusal}
use Rattle.sentry_base.specs.declared.protocol.refusal.Refusal.TheVariants as refusal
use Rattle.c_base.specs.declared.fault.CallFault.{CallFault}
use Rattle.c_base.specs.declared.fault.CallFault.TheVariants.{OutOfMemory, Stale, OutOfOrder, StillNamed, ScopesOpen, InvalidDsn, InvalidRate, ForeignLosses, Full, NotUtf8, Unknown}

-- the answers by their numbers: 0 that the call was made, 1 to 9 as the engine numbers its refusals
abbrev answers : List (Result (Unit {0}) CallFault)
answers =
    Ok tt ∷ Err OutOfMemory ∷ Err Stale ∷ Err OutOfOrder ∷ Err StillNamed ∷ Err ScopesOpen ∷ Err InvalidDsn
    ∷ Err InvalidRate ∷ Err ForeignLosses ∷ Err Full ∷ Err NotUtf8 ∷ Err Unknown ∷ []

-- the answer of a number, if it is below 12
unfoldable pub answer_of : ℕ → Result (Unit {0}) CallFault
answer_of number = unwrap_or (slice_get answers number) (Err Unknown)

-- the fault of a refusal, which says the same but for the cause of an invalid DSN
abbrev pub fault_of : Refusal → CallFault
fault_of refusal.OutOfMemory = OutOfMemory
fault_of refusal.Stale = Stale
fault_of refusal.OutOfOrder = OutOfOrder
fault_of refusal.StillNamed = StillNamed
fault_of refusal.ScopesOpen = ScopesOpen
fault_of (refusal.InvalidDsn cause) = InvalidDsn
fault_of refusal.InvalidRate = InvalidRate
fault_of refusal.ForeignLosses = ForeignLosses
fault_of refusal.Full = Full

-- what the engine refused, where it was the engine that did
abbrev pub refusal_of : CallFault → Option Refusal
refusal_of Stale = Some refusal.Stale
refusal_of OutOfOrder = Some refusal.OutOfOrder
refusal_of StillNamed = Some refusal.StillNamed
refusal_of ScopesOpen = Some refusal.ScopesOpen
refusal_of ForeignLosses = Some refusal.ForeignLosses
refusal_of Full = Some refusal.Full
refusal_of fault = None
