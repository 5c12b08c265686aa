-- What whoever looks finds while a file is put into a folder.
use Rattle.std.proofs.Common.{◌≡◌, ◌≢◌, ap, ◌∙◌, subst, Bool, true, false, inl, inr, List, [], ◌∷◌}
use Rattle.std.specs.Prelude.{◌⊎◌, Some, None}
use Rattle.sentry_plain.specs.Texts.{Bytes}
use Rattle.sentry_writers.specs.Folders.{FolderCall, write_call, rename_call, remove_call, put_calls, write_failed, rename_failed, ArePutCalls, Runs}
use Rattle.sentry_writers.specs.FolderStates.{Files, KeepsBut, MayMake, IsSeenAlong, ShowsWhole}

module _ (partial name text : Bytes) (apart : name ≢ partial) where
  abbrev Shows : Files → Files → Type 0
  Shows old seen = ShowsWhole partial name text old seen

  kept : (old seen : Files) → KeepsBut partial old seen → Shows old seen
  kept old seen k = (λ other p n. k other p, inl (k name apart))

  same : (old seen : Files) → seen ≡ old → KeepsBut partial old seen
  same old seen e = λ other p. ap (λ (files : Files). files other) e

  both : (old next seen : Files) → KeepsBut partial old next → KeepsBut partial next seen → KeepsBut partial old seen
  both old next seen a b = λ other p. b other p ∙ a other p

  last_removed : (removed : Bool) (old seen : Files) → IsSeenAlong (remove_call partial removed ∷ []) old seen → KeepsBut partial old seen
  last_removed removed old seen (inl e) = same old seen e
  last_removed removed old seen (inr m) = both old m.0 seen m.1 (same m.0 seen m.2)

  renamed : (old next seen : Files) → MayMake old (write_call partial text true) next → IsSeenAlong (rename_call partial name true ∷ []) next seen → Shows old seen
  renamed old next seen w (inl e) = kept old seen (both old next seen w.1 (same next seen e))
  renamed old next seen w (inr m) =
      (λ other p n. ap (λ (files : Files). files other) m.2 ∙ m.1.2 other p n ∙ w.1 other p, inr (ap (λ (files : Files). files name) m.2 ∙ m.1.0 ∙ w.0))

  put : (old seen : Files) → IsSeenAlong (put_calls partial name text) old seen → Shows old seen
  put old seen (inl e) = kept old seen (same old seen e)
  put old seen (inr m) = renamed old m.0 seen m.1 m.2

  not_written : (removed : Bool) (old seen : Files) → IsSeenAlong (write_failed partial name text removed) old seen → Shows old seen
  not_written removed old seen (inl e) = kept old seen (same old seen e)
  not_written removed old seen (inr m) = kept old seen (both old m.0 seen m.1 (last_removed removed m.0 seen m.2))

  not_named : (removed : Bool) (old seen : Files) → IsSeenAlong (rename_call partial name false ∷ remove_call partial removed ∷ []) old seen → KeepsBut partial old seen
  not_named removed old seen (inl e) = same old seen e
  not_named removed old seen (inr m) = both old m.0 seen (same old m.0 m.1) (last_removed removed m.0 seen m.2)

  not_renamed : (removed : Bool) (old seen : Files) → IsSeenAlong (rename_failed partial name text removed) old seen → Shows old seen
  not_renamed removed old seen (inl e) = kept old seen (same old seen e)
  not_renamed removed old seen (inr m) = kept old seen (both old m.0 seen m.1.1 (not_named removed m.0 seen m.2))

  failed : (removed : Bool) (calls : List FolderCall) → (calls ≡ write_failed partial name text removed) ⊎ (calls ≡ rename_failed partial name text removed)
      → (old seen : Files) → IsSeenAlong calls old seen → Shows old seen
  failed removed calls (inl e) old seen m = not_written removed old seen (subst (λ some. IsSeenAlong some old seen) e m)
  failed removed calls (inr e) old seen m = not_renamed removed old seen (subst (λ some. IsSeenAlong some old seen) e m)

  pub shows_whole : (done : Bool) (calls : List FolderCall) → ArePutCalls partial name text done calls → (old seen : Files) → IsSeenAlong calls old seen → Shows old seen
  shows_whole true calls are old seen m = put old seen (subst (λ some. IsSeenAlong some old seen) are m)
  shows_whole false calls are old seen m = failed are.0 calls are.1 old seen m

pub ends_whole : (partial name text : Bytes) (old new : Files) → Runs MayMake (put_calls partial name text) old new → (new name ≡ Some text) × (new partial ≡ None)
ends_whole partial name text old new r =
    let e : new ≡ r.2.0 = r.2.2 in
    (ap (λ (files : Files). files name) e ∙ r.2.1.0 ∙ r.1.0, ap (λ (files : Files). files partial) e ∙ r.2.1.1)
