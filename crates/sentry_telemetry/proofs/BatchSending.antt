-- Whether a batch is sent when an item joins it.
use Rattle.std.proofs.Common.{◌≡◌, refl, ap, ◌∙◌, sym, ℕ, List, [], ◌∷◌, ◌++◌, length, Bool, true, false, arith, ◌==◌, ◌-◌}
use Rattle.std.proofs.lemmas.Bool.Decides.{nat_tests}
use Rattle.std.specs.Prelude.{Option, Some, None, is_some, nat_le, ◌&&◌}
use Rattle.sentry_base.specs.declared.protocol.client_report.ClientReport.{ClientReport}
use Rattle.sentry_base.specs.declared.protocol.envelope.Envelope.{Envelope}
use Rattle.sentry_base.specs.declared.protocol.keys.ClientKey.{ClientKey}
use Rattle.sentry_batches.specs.Batches.{if_full}
use Rattle.sentry_batches.proofs.BatchLemmas.{next_full}
use Rattle.sentry_sending.specs.Sending.{for_client, envelopes_from}

no_batch : {T : Type 0} (batch : Option (List T)) → is_some batch ≡ false → batch ≡ None
no_batch None none = refl
no_batch (Some items) none = absurd cc

module _ {T : Type 0} where
  -- nothing leaves where the slot is empty, or one more item doesn't make the batch full
  pub unsent_item : (key : ClientKey) (occupied : Bool) (report : Option ClientReport) (envelopes : Option (List T) → List Envelope) → [] ≡ envelopes None
      → (limit : ℕ) (items : List T) (item : T) → (occupied && nat_le (limit - 1) (length items)) ≡ false
      → [] ≡ envelopes_from occupied key report (envelopes (if_full limit (items ++ item ∷ [])))
  unsent_item key true report envelopes none limit items item h =
      ap (for_client key report)
      (none ∙ ap envelopes (sym (no_batch (if_full limit (items ++ item ∷ [])) (sym (next_full limit items item) ∙ h))))
  unsent_item key false report envelopes none limit items item h = refl

module _ {T : Type 0} where
  pub none_if_empty : (items : List T) → (length items == 0) ≡ true → items ≡ []
  none_if_empty [] e = refl
  none_if_empty (item ∷ items) e = absurd (grind (arith, nat_tests))
