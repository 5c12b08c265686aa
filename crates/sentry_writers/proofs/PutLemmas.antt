-- What becomes of a folder, call by call.
use Rattle.std.proofs.Common.{refl, Bool, true, false, inl, inr, []}
use Rattle.std.specs.Prelude.{Ok, Err, OnOk, is_ok, codes}
use Rattle.std.specs.declared.result.Result.{Result}
use Rattle.sentry_plain.specs.Texts.{Bytes}
use Rattle.sentry_writers.specs.declared.stamps.Stamp.{Stamp}
use Rattle.sentry_writers.specs.Folders.{FolderCall, write_call, rename_call, remove_call, put_calls, write_failed, rename_failed, PutsFile, Runs, trial_calls}
use Rattle.sentry_writers.specs.Spooling.{PutsNext}
use Rattle.sentry_writers.specs.Stamps.{file_name, partial_name}

module _ {S : Type 0} (does : S → FolderCall → S → Type 0) (partial name text : Bytes) where
  pub is_put : (first next last : S) → does first (write_call partial text true) next → does next (rename_call partial name true) last
      → PutsFile partial name text does true first last
  is_put first next last w r = (put_calls partial name text, refl, (next, w, (last, r, refl)))

  pub is_not_written : (first next last : S) (removed : Bool) → does first (write_call partial text false) next → does next (remove_call partial removed) last
      → PutsFile partial name text does false first last
  is_not_written first next last removed w r =
      (write_failed partial name text removed, (removed, inl refl), (next, w, (last, r, refl)))

  pub is_not_renamed : (first next third last : S) (removed : Bool) → does first (write_call partial text true) next → does next (rename_call partial name false) third
      → does third (remove_call partial removed) last → PutsFile partial name text does false first last
  is_not_renamed first next third last removed w n r =
      (rename_failed partial name text removed, (removed, inr refl), (next, w, (third, n, (last, r, refl))))

-- the name that a trial writes under
abbrev pub trial_name : Bytes
trial_name = codes "00000000000000000000-00000000000000000000.part"

-- a trial whose first call was done, and so perhaps the second
pub is_tried : {S E : Type 0} (does : S → FolderCall → S → Type 0) (removed : Result (Unit {0}) E) (first next last : S)
    → does first (write_call trial_name [] true) next → does next (remove_call trial_name (is_ok removed)) last
    → OnOk removed (Runs does trial_calls first last)
is_tried does (Ok x) first next last w r = (next, w, (last, r, refl))
is_tried does (Err x) first next last w r = tt

module _ {S : Type 0} (does : S → FolderCall → S → Type 0) (stamp : Stamp) where
  pub is_next : (text : Bytes) (done : Bool) (first last : S) → PutsFile (partial_name stamp) (file_name stamp) text does done first last
      → PutsNext does stamp text done first last
  is_next text true first last put = put
  is_next text false first last put = inr put
