-- What a call that absorbs nothing and adds no client leaves of what the books absorbed.
use Rattle.std.proofs.Common.{◌≡◌, refl, ap, ◌∙◌, sym, subst, ℕ, List, [], ◌∷◌, Bool, true, false}
use Rattle.std.specs.Prelude.{Option, Some, None, ◌==◌, unwrap_or, if◌then◌else◌}
use Rattle.std.specs.List.{list_any}
use Rattle.sentry_plain.specs.Tables.{value_at, replace_at, without}
use Rattle.sentry_plain.proofs.NumberLemmas.{same_number}
use Rattle.sentry_base.specs.declared.protocol.envelope.Envelope.{Envelope}
use Rattle.sentry_base.specs.declared.protocol.keys.ClientKey.{ClientKey}
use Rattle.sentry_base.specs.declared.protocol.keys.Label.{Label}
use Rattle.sentry_options.specs.Meanings.{Meanings}
use Rattle.sentry_client_reports.specs.LossBooks.{LossEntry, engine_losses, report_point}
use Rattle.sentry_sending.specs.Sending.{after_sending, send}
use Rattle.sentry_state.specs.Changes.{with_client_history}
use Rattle.sentry_state.specs.Books.{with_entry}
use Rattle.sentry_state.specs.Worlds.{World}
use Rattle.sentry_state.proofs.Keeping.{replace_absent}
use Rattle.std.specs.Prelude.{Result, Ok, Err}
use Rattle.sentry_base.specs.declared.protocol.refusal.Refusal.{Refusal}
use Rattle.sentry_base.specs.Callbacks.{Partial}
use Rattle.sentry_state.specs.declared.state.Out.{Out}
use Rattle.sentry_calls.specs.declared.call.Call.{Call}
use Rattle.sentry_calls.specs.declared.call.Call.TheVariants as group
use Rattle.sentry_calls.specs.declared.call.clients.ClientCall.{ClientCall}
use Rattle.sentry_calls.specs.declared.call.clients.ClientCall.TheVariants.{AddClient, Absorb, CloneClient, TakeReport}
use Rattle.sentry_calls.specs.declared.call.hubs.HubCall.{HubCall}
use Rattle.sentry_calls.specs.declared.call.hubs.HubCall.TheVariants.{NewHub, NewHubFromTop}
use Rattle.sentry_calls.specs.declared.call.Reply.{Reply}
use Rattle.sentry_calls.specs.declared.call.Reply.TheVariants as reply
use Rattle.sentry_calls.specs.Steps.{step}
use Rattle.sentry_laws.specs.OwnCalls.{client_added}
use Rattle.sentry_laws.proofs.Effects.{Effect, seen, losses_absorbed, effects, client_effects, hub_effects}
use Rattle.sentry_laws.proofs.Tests.{any_first, any_second}
use Rattle.sentry_laws.proofs.Trails.{own_any, TellsBy}
use Rattle.sentry_laws.proofs.Calls.{told_step}
use Rattle.sentry_laws.specs.SentItems.{handed_in}
use Rattle.sentry_laws.proofs.Changes.{Change, Changes, nothing, one, both, after_arrival, envelopes_on_arrival, adds_client, drops_client, arrives, accepts, mails, loses, takes_report, absorbs}
use Rattle.sentry_laws.specs.Losses.{absorbed, leaves_absorbed}
use Rattle.sentry_laws.proofs.Increasing.{IsIncreasing, increasing_replaced, increasing_without, without_if}
use Rattle.sentry_laws.proofs.Found.{found_replaced, left_over}

-- each book that is there was there before, and has absorbed the same
pub record KeepsBooks (old new : List (ℕ × List LossEntry)) : Type 0 where
  pub increasing : IsIncreasing 0 old → IsIncreasing 0 new
  pub same : IsIncreasing 0 old → (n : ℕ) (now : List LossEntry) → value_at new n ≡ Some now
      → (before : List LossEntry) × (value_at old n ≡ Some before) × ((i : ℕ) → absorbed now i ≡ absorbed before i)

module _ where
  pub unchanged : (books : List (ℕ × List LossEntry)) → KeepsBooks books books
  unchanged books = record { increasing = λ b. b; same = λ b n now at. (now, at, λ i. refl) }

  pub then_keeps : (first second third : List (ℕ × List LossEntry)) → KeepsBooks first second → KeepsBooks second third
      → KeepsBooks first third
  then_keeps first second third k l = record {
    increasing = λ b. l.increasing (k.increasing b);
    same = λ b n now at.
        let middle = l.same (k.increasing b) n now at in
        let before = k.same b n middle.0 middle.1 in
        (before.0, before.1, λ i. middle.2 i ∙ before.2 i);
  }

  -- an entry that is not of drained losses
  abbrev IsSilent : LossEntry → Type 0
  IsSilent entry = (history : List LossEntry) (i : ℕ) → absorbed (entry ∷ history) i ≡ absorbed history i

  entered-by : (b : Bool) (n k : ℕ) (entry : LossEntry) (held : List LossEntry) (o : Option (List LossEntry))
      (now : List LossEntry) → IsSilent entry
      → (b ≡ true → o ≡ Some held) → (if b then Some (entry ∷ held) else o) ≡ Some now
      → (before : List LossEntry) × (o ≡ Some before) × ((i : ℕ) → absorbed now i ≡ absorbed before i)
  entered-by true n k entry held o now silent own at =
      let same : entry ∷ held ≡ now = cc in (held, own refl, λ i. ap (λ h. absorbed h i) (sym same) ∙ silent held i)
  entered-by false n k entry held o now silent own at = (now, at, λ i. refl)

  own_value : (books : List (ℕ × List LossEntry)) (n k : ℕ) (held : List LossEntry) → value_at books n ≡ Some held
      → (k == n) ≡ true → value_at books k ≡ Some held
  own_value books n k held at e = ap (value_at books) (same_number k n e) ∙ at

  entered : (books : List (ℕ × List LossEntry)) (n : ℕ) (entry : LossEntry) (o : Option (List LossEntry))
      → IsSilent entry → value_at books n ≡ o
      → KeepsBooks books (replace_at books n (entry ∷ unwrap_or o []))
  entered books n entry None silent at = subst (KeepsBooks books) (sym (replace_absent books n (entry ∷ []) at))
      (unchanged books)
  entered books n entry (Some held) silent at = record {
    increasing = λ b. increasing_replaced 0 n (entry ∷ held) books b;
    same = λ b k now found. entered-by (k == n) n k entry held (value_at books k) now silent
        (own_value books n k held at) (sym (found_replaced books n k (entry ∷ held) held at) ∙ found);
  }

  removed : (b : Bool) (books : List (ℕ × List LossEntry)) (n : ℕ)
      → KeepsBooks books (if b then books else without books n)
  removed true books n = unchanged books
  removed false books n = record {
    increasing = λ b. increasing_without 0 n books b;
    same = λ b k now found. (
      now,
      left_over (k == n) (value_at books k) now (sym (without_if 0 n k books b) ∙ found),
      λ
          i. refl,
    );
  }

  module _ {P C : Type 0} where
    with_silent : (world : World P C) (label : Label) (entry : LossEntry) → IsSilent entry → KeepsBooks world.books
        (with_entry world label entry).books
    with_silent world label entry silent = entered world.books label.number entry (value_at world.books label.number)
        silent refl

    sending_books : (label : Label) (sent : List (ClientKey × Envelope)) (world : World P C) → KeepsBooks world.books
        (after_sending label sent world).books
    sending_books label [] world = unchanged world.books
    sending_books label (first ∷ rest) world = with_silent world label report_point (λ history i. refl)

-- ---- effects by which a book may absorb something or begin

module _ {P C : Type 0} where
  abbrev pub is_loud : Effect P C → Bool
  is_loud (seen (client_added key options)) = true
  is_loud (losses_absorbed label losses) = true
  is_loud _ = false

module _ {P C : Type 0} {meanings : C → Meanings} where
  books_change : {f : Option Envelope} {old new : World P C} {some : List (Effect P C)} {sent : List
      (ClientKey × Envelope)} → Change meanings f old some sent new
      → list_any is_loud some ≡ false → KeepsBooks old.books new.books
  books_change (adds_client world client now queues open_ of_engine) h = absurd cc
  books_change (drops_client world key client label found same none) h = removed _ world.books label.number
  books_change (arrives world key client arrival is_off found open_ came) h =
      sending_books client.label (send key client (envelopes_on_arrival arrival client)
      (with_client_history world key (after_arrival arrival client))).sent
      (with_client_history world key (after_arrival arrival client))
  books_change (accepts world key client arrival kind is_off found open_ came) h =
      sending_books client.label (send key client (envelopes_on_arrival arrival client)
      (with_client_history world key (after_arrival arrival client))).sent
      (with_client_history world key (after_arrival arrival client))
  books_change (mails world key client envelope found occupied none told_) h =
      with_silent world client.label report_point (λ history i. refl)
  books_change (loses world key client losses found) h = with_silent world client.label (engine_losses losses)
      (λ history i. refl)
  books_change (takes_report world label has) h = with_silent world label report_point (λ history i. refl)
  books_change (absorbs world label losses has) h = absurd cc
  books_change _ h = unchanged _

  pub books_changes : {f : Option Envelope} {old new : World P C} {some : List (Effect P C)} {sent : List
      (ClientKey × Envelope)} → Changes meanings f old some sent new
      → list_any is_loud some ≡ false → KeepsBooks old.books new.books
  books_changes (nothing world) h = unchanged world.books
  books_changes (one c) h = books_change c h
  books_changes (both {old = old} {middle = middle} {new = new} {first = first} {second = second} t u) h =
      then_keeps old.books middle.books new.books (books_changes t (any_first is_loud first second h))
      (books_changes u (any_second is_loud first second h))

-- ---- calls

module _ {P C : Type 0} where
  client_call_quiet : (meanings : C → Meanings) (call : ClientCall P C) (made : Reply P C)
      → leaves_absorbed (group.Client call) ≡ true → list_any is_loud (client_effects meanings call made) ≡ false
  client_call_quiet meanings (AddClient options transport label now) made h = absurd cc
  client_call_quiet meanings (Absorb label losses) made h = absurd cc
  client_call_quiet meanings (CloneClient client now) (reply.Client key) h = refl
  client_call_quiet meanings (CloneClient client now) _ h = refl
  client_call_quiet meanings (TakeReport label) (reply.Report report) h = refl
  client_call_quiet meanings (TakeReport label) _ h = refl
  client_call_quiet meanings call made h = refl

  hub_call_quiet : (meanings : C → Meanings) (call : HubCall P) (made : Reply P C)
      → list_any is_loud (hub_effects {C = C} meanings call made) ≡ false
  hub_call_quiet meanings (NewHub client scope) (reply.Hub key) = refl
  hub_call_quiet meanings (NewHub client scope) _ = refl
  hub_call_quiet meanings (NewHubFromTop hub) (reply.Hub key) = refl
  hub_call_quiet meanings (NewHubFromTop hub) _ = refl
  hub_call_quiet meanings call made = refl

  call_quiet : (meanings : C → Meanings) (call : Call P C) (made : Reply P C) → leaves_absorbed call ≡ true
      → list_any is_loud (effects meanings call made) ≡ false
  call_quiet meanings (group.Client call) made h = client_call_quiet meanings call made h
  call_quiet meanings (group.Hub call) made h = hub_call_quiet meanings call made
  call_quiet meanings (group.Span call) made h = refl

  told_keeps : (meanings : C → Meanings) (f : Option Envelope) (world : World P C) (own : Reply P C → List (Effect P C))
      (answer : Result (Out (Reply P C)) Refusal) (after : World P C)
      → ((made : Reply P C) → list_any is_loud (own made) ≡ false) → TellsBy meanings f world own answer after
      → KeepsBooks world.books after.books
  told_keeps meanings f world own (Ok out) after quiet tells =
      books_changes tells.changes
      (sym (own_any is_loud (λ number session. refl) tells.effects) ∙ (ap (list_any is_loud) tells.same ∙ quiet out.reply))
  told_keeps meanings f world own (Err refusal) after quiet tells =
      subst (λ (w : World P C). KeepsBooks world.books w.books) (sym tells) (unchanged world.books)

  -- any other call leaves what each book absorbed
  pub call_keeps : (gives : P → Partial) (meanings : C → Meanings) (call : Call P C) (world : World P C)
      → leaves_absorbed call ≡ true
      → KeepsBooks world.books (step gives meanings call world).after.books
  call_keeps gives meanings call world h =
      told_keeps meanings (handed_in call) world (effects meanings call) (step gives meanings call world).answer
      (step gives meanings call world).after (λ made. call_quiet meanings call made h)
      (told_step gives meanings call world).tells
