-- What refuses a call before the lock makes it.
use Rattle.std.proofs.Common.{◌≡◌, ◌∙◌, refl, sym, subst, ℕ, Bool, true, false}
use Rattle.std.specs.Prelude.{◌-◌, ◌^◌, nat_lt, is_ok, Option, Some, None, Result, Ok, Err}
use Rattle.std.specs.Option.{option_map}
use Rattle.sentry_base.specs.declared.protocol.keys.ClientKey.{ClientKey}
use Rattle.sentry_base.specs.declared.protocol.keys.HubKey.{HubKey}
use Rattle.sentry_base.specs.declared.protocol.keys.Label.{Label}
use Rattle.sentry_base.specs.declared.protocol.refusal.Refusal.{Refusal}
use Rattle.sentry_base.specs.declared.protocol.refusal.Refusal.TheVariants.{Stale, Full, OutOfMemory}
use Rattle.sentry_calls.specs.Clients.{clone_client}
use Rattle.sentry_calls.specs.Hubs.{scope}
use Rattle.sentry_calls.specs.Layers.{push_scope}
use Rattle.sentry_state.specs.declared.state.Out.{Out}
use Rattle.sentry_state.specs.declared.state.State.{State}
use Rattle.sentry_state.specs.Outcomes.{Outcome, Does, IsAnswer, memory, client_at, hub_at, require, require_some}
use Rattle.sentry_state.specs.Worlds.{World, ClientHistory, Stands}

not_both : {T : Type 0} (r : Result (Out T) Refusal) (refusal : Refusal) → is_ok r ≡ true → r ≡ Err refusal → ⊥
not_both (Ok out) refusal made refused = absurd cc
not_both (Err other) refusal made refused = absurd cc

module _ {P C : Type 0} where
  -- ---- a clone

  module _ {A : Type 0} (world : World P C) (go : ClientHistory C → Outcome P C A) where
    not_held : (o : Option (ClientHistory C)) → option_map (λ held. held.label) o ≡ None
        → (require_some Stale world o go).answer ≡ Err Stale
    not_held None none = refl
    not_held (Some held) none = absurd cc

    no_number : (o : Option (ClientHistory C)) (label : Label) (b : Bool) → option_map (λ held. held.label) o ≡ Some label
        → b ≡ false → (require_some Stale world o (λ held. require Full world b (go held))).answer ≡ Err Full
    no_number None label b some is = absurd cc
    no_number (Some held) label true some is = absurd cc
    no_number (Some held) label false some is = refl

    numbered : (o : Option (ClientHistory C)) (label : Label) (b : Bool) → option_map (λ held. held.label) o ≡ Some label
        → b ≡ true → ((held : ClientHistory C) → is_ok (go held).answer ≡ true)
        → is_ok (require_some Stale world o (λ held. require Full world b (go held))).answer ≡ true
    numbered None label b some is ok = absurd cc
    numbered (Some held) label true some is ok = ok held
    numbered (Some held) label false some is ok = absurd cc

  module _ (engine : State P C) (client : ClientKey) (label : Option Label)
      (is : (world : World P C) → Stands engine world → label ≡ option_map (λ held. held.label) (client_at world client))
    where
      -- the client isn't held
      pub stale_clone : label ≡ None → (now : ℕ) → Does engine engine (Err Stale) (clone_client client now)
      unfolding clone_client
      stale_clone none now =
          (refl, λ world stands. not_held world _ (client_at world client) (sym (is world stands) ∙ none))

      module _ (own : Label) (some : label ≡ Some own) (number : ℕ)
          (next : (world : World P C) → Stands engine world → number ≡ world.next.client) where
        -- no number is left
        pub full_clone : nat_lt number (2 ^ 64 - 1) ≡ false → (now : ℕ)
            → Does engine engine (Err Full) (clone_client client now)
        unfolding clone_client
        full_clone last now = (
          refl,
          λ world stands.
              no_number world _ (client_at world client) own (nat_lt world.next.client (2 ^ 64 - 1))
              (sym (is world stands) ∙ some)
              (subst (λ n. nat_lt n (2 ^ 64 - 1) ≡ false) (next world stands) last),
        )

        -- it is made
        pub made_clone : nat_lt number (2 ^ 64 - 1) ≡ true → (world : World P C) → Stands engine world → (now : ℕ)
            → is_ok (clone_client client now world).answer ≡ true
        unfolding clone_client
        made_clone left world stands now =
            numbered world _ (client_at world client) own (nat_lt world.next.client (2 ^ 64 - 1))
            (sym (is world stands) ∙ some)
            (subst (λ n. nat_lt n (2 ^ 64 - 1) ≡ true) (next world stands) left) (λ held. refl)

  -- ---- a push

  module _ {X A B : Type 0} (world : World P C) (why : Refusal) (f : X → Outcome P C A) (g : X → Outcome P C B)
      (f_made : (x : X) → is_ok (f x).answer ≡ true) (g_made : (x : X) → is_ok (g x).answer ≡ true) where
    alike : (refusal : Refusal) (o : Option X) → IsAnswer (require_some why world o f).answer (Err refusal) memory
        → IsAnswer (require_some why world o g).answer (Err refusal) memory
    alike OutOfMemory None did = did
    alike OutOfMemory (Some x) did = g_made x
    alike refusal None did = cc
    alike refusal (Some x) did = absurd (not_both (f x).answer refusal (f_made x) did)

  -- what refuses a copy of the top scope refuses a push
  pub push_refused : (engine : State P C) (hub : HubKey) (refusal : Refusal) → Does engine engine (Err refusal) (scope hub)
      → Does engine engine (Err refusal) (push_scope hub)
  unfolding scope push_scope
  push_refused engine hub refusal did = (
    refl,
    λ world stands.
        alike world Stale _ _ (λ hub. refl) (λ hub. refl) refusal (hub_at world hub) (did.1 world stands),
  )
