-- The effects on a hub alone give its layers.
use Rattle.std.proofs.Common.{◌≡◌, refl, ap, ◌∙◌, sym, ℕ, List, [], ◌∷◌, Bool, true, false}
use Rattle.std.proofs.lemmas.Bool.{or_parts}
use Rattle.std.specs.Prelude.{Option, Some, None, ◌==◌, if◌then◌else◌}
use Rattle.std.specs.List.{list_any}
use Rattle.std.specs.Option.{option_map}
use Rattle.sentry_base.specs.declared.protocol.keys.ClientKey.{ClientKey}
use Rattle.sentry_options.specs.Meanings.{Meanings}
use Rattle.sentry_options.specs.declared.clientoptions.ClientOptions.{ClientOptions}
use Rattle.sentry_scope.specs.declared.scope.stack.Stack.{Stack}
use Rattle.sentry_scope.specs.Stacks.{is_client, top_alone}
use Rattle.sentry_laws.specs.OwnCalls.{Effect, LayerChange, client_added, client_cloned, hub_made, hub_made_from, hub_changed, hub_released, options_after, layers_after, change_layers, own_alone, is_derived, OwnAloneSuffice}

module _ {P C : Type 0} (meanings : C → Meanings) (number : ℕ) where
  -- an effect that says nothing of clients, left out or not
  skipped : (b : Bool) (effect : Effect P C) (own : List (Effect P C)) (key : ClientKey)
      → ((told : List (Effect P C)) → options_after (effect ∷ told) key ≡ options_after told key)
      → options_after (if b then effect ∷ own else own) key ≡ options_after own key
  skipped true effect own key h = h own
  skipped false effect own key h = refl

  same_options : (some : List (Effect P C)) (key : ClientKey) → options_after (own_alone number some)
      key ≡ options_after some key
  same_options [] key = refl
  same_options (client_added made options ∷ rest) key =
      ap (λ (o : Option (ClientOptions C)). if is_client made (Some key) then Some options else o)
      (same_options rest key)
  same_options (client_cloned made original ∷ rest) key =
      λ i. if is_client made (Some key) then same_options rest original i else same_options rest key i
  same_options (hub_made made stack ∷ rest) key = skipped (number == made) (hub_made made stack) (own_alone number rest)
      key (λ told. refl) ∙ same_options rest key
  same_options (hub_made_from made maker ∷ rest) key = skipped (number == made) (hub_made_from made maker)
      (own_alone number rest) key (λ told. refl) ∙ same_options rest key
  same_options (hub_changed hub change ∷ rest) key = skipped (number == hub) (hub_changed hub change)
      (own_alone number rest) key (λ told. refl) ∙ same_options rest key
  same_options (hub_released hub ∷ rest) key = skipped (number == hub) (hub_released hub) (own_alone number rest) key
      (λ told. refl) ∙ same_options rest key

  made-by : (b : Bool) (made : ℕ) (stack : Stack P) (all own : List (Effect P C)) → (number == made) ≡ b
      → layers_after meanings all number ≡ layers_after meanings own number
      → (if b then Some stack else layers_after meanings all number) ≡ layers_after meanings
      (if b then hub_made made stack ∷ own else own) number
  made-by true made stack all own e h =
      sym (ap (λ (b : Bool). if b then Some stack else layers_after meanings own number) e)
  made-by false made stack all own e h = h

  changed-by : (b : Bool) (hub : ℕ) (change : LayerChange P) (all own : List (Effect P C)) → (number == hub) ≡ b
      → ((key : ClientKey) → options_after own key ≡ options_after all key)
      → layers_after meanings all number ≡ layers_after meanings own number
      → (if b then option_map (change_layers meanings (options_after all) change) (layers_after meanings all number)
      else layers_after meanings all number)
      ≡ layers_after meanings (if b then hub_changed hub change ∷ own else own) number
  changed-by true hub change all own e options h =
      (λ i. option_map (change_layers meanings (λ key. sym (options key) i) change) (h i))
      ∙ sym (ap (λ (b : Bool). if b then option_map (change_layers meanings (options_after own) change)
      (layers_after meanings own number) else layers_after meanings own number) e)
  changed-by false hub change all own e options h = h

  released-by : (b : Bool) (hub : ℕ) (all own : List (Effect P C)) → (number == hub) ≡ b
      → layers_after meanings all number ≡ layers_after meanings own number
      → (if b then None else layers_after meanings all number) ≡ layers_after meanings
      (if b then hub_released hub ∷ own else own) number
  released-by true hub all own e h = sym (ap (λ (b : Bool). if b then None else layers_after meanings own number) e)
  released-by false hub all own e h = h

  derived-by : (b : Bool) (made maker : ℕ) (all own : List (Effect P C)) → b ≡ false
      → layers_after meanings all number ≡ layers_after meanings own number
      → (if b then option_map top_alone (layers_after meanings all maker) else layers_after meanings all number)
      ≡ layers_after meanings (if b then hub_made_from made maker ∷ own else own) number
  derived-by true made maker all own none h = absurd cc
  derived-by false made maker all own none h = h

  pub alone : (some : List (Effect P C)) → list_any (is_derived number) some ≡ false
      → layers_after meanings some number ≡ layers_after meanings (own_alone number some) number
  alone [] none = refl
  alone (client_added made options ∷ rest) none = alone rest none
  alone (client_cloned made original ∷ rest) none = alone rest none
  alone (hub_made made stack ∷ rest) none = made-by (number == made) made stack rest (own_alone number rest) refl
      (alone rest none)
  alone (hub_made_from made maker ∷ rest) none =
      derived-by (number == made) made maker rest (own_alone number rest) (or_parts (number == made) _ none).0
      (alone rest (or_parts (number == made) _ none).1)
  alone (hub_changed hub change ∷ rest) none = changed-by (number == hub) hub change rest (own_alone number rest) refl
      (same_options rest) (alone rest none)
  alone (hub_released hub ∷ rest) none = released-by (number == hub) hub rest (own_alone number rest) refl
      (alone rest none)

pub own_alone_suffice : (P C : Type 0) (meanings : C → Meanings) → OwnAloneSuffice P C meanings
own_alone_suffice P C meanings some number none = alone meanings number some none
