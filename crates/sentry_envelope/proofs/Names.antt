-- The names of the members that are written: each comes once in its object.
use Rattle.std.proofs.Common.{◌≡◌, ◌≢◌, ◌⊎◌, List, [], ◌∷◌, Bool, true, false, true≢false, cond, not, ◌||◌, Option, Some, None, codes, refl, sym, ap, ◌∙◌, subst, inl, inr, arith, if◌then◌else◌}
use Rattle.std.specs.Prelude.{All, IfSome, ⊤}
use Rattle.std.specs.List.{filter}
use Rattle.std.specs.Map.{keys_of}
use Rattle.std.specs.Str.{bytes_eq}
use Rattle.std.proofs.lemmas.Bool.{or_left, or_right}
use Rattle.std.proofs.lemmas.List.Elements.{All-cons, All-nil, All-head, All-tail}
use Rattle.std.proofs.lemmas.List.Kept.{AllPairs-cons, AllPairs-filter}
use Rattle.std.proofs.lemmas.Slice.Eq.{bytes_eq-Decides}
use Rattle.json.specs.Json.{Json, array, object, Members, no_members, member}
use Rattle.json.specs.Strict.{keys, AreDistinct, HasUniqueKeys, ItemsHaveUniqueKeys, MembersHaveUniqueKeys}
use Rattle.sentry_plain.specs.Texts.{Bytes}
use Rattle.sentry_plain.specs.Values.{Data}
use Rattle.sentry_plain.specs.ValueView.{members_from}
use Rattle.sentry_framing.specs.Json.{optional, items_of}
use Rattle.sentry_envelope.specs.Breadcrumbs.{put_values}
use Rattle.sentry_envelope.specs.Events.{put_list}
use Rattle.sentry_envelope.specs.Members.{put_entries, map_json, put_map, put_items, put_other, put_others}
use Rattle.sentry_envelope.specs.Names.{KeysOnce, DataOnce}
use Rattle.sentry_envelope.specs.Values.{value_json, members_json}

-- ---- names among others

abbrev pub among : Bytes → List Bytes → Bool
among k [] = false
among k (n ∷ ns) = bytes_eq k n || among k ns

-- whatever tells two names apart
differ : (p : Bytes → Bool) (k y : Bytes) → p k ≡ false → p y ≡ true → k ≢ y
differ p k y a b e = true≢false (sym b ∙ ap p (sym e) ∙ a)

-- each member has a name that is among these, or that isn't the record's own
abbrev pub Known : (Bytes → Bool) → List Bytes → Members → Type 0
Known own ns no_members = ⊤
Known own ns (member k j ms) = ((among k ns ≡ true) ⊎ (own k ≡ false)) × Known own ns ms

more_known : (own : Bytes → Bool) (n : Bytes) (ns : List Bytes) (ms : Members) → Known own ns ms → Known own (n ∷ ns) ms
more_known own n ns no_members h = tt
more_known own n ns (member k j ms) (inl here, h) = (inl (or_right (bytes_eq k n) (among k ns) here), more_known own n ns ms h)
more_known own n ns (member k j ms) (inr other, h) = (inr other, more_known own n ns ms h)

apart : (own : Bytes → Bool) (ns : List Bytes) (k : Bytes) (ms : Members) → among k ns ≡ false → own k ≡ true → Known own ns ms → All (λ y. k ≢ y) (keys ms)
apart own ns k no_members a o h = All-nil (λ y. k ≢ y)
apart own ns k (member y j ms) a o (inl here, h) =
    All-cons (λ y. k ≢ y) y (keys ms) (differ (λ x. among x ns) k y a here) (apart own ns k ms a o h)
apart own ns k (member y j ms) a o (inr other, h) =
    All-cons (λ y. k ≢ y) y (keys ms) (λ e. true≢false (sym o ∙ ap own e ∙ other)) (apart own ns k ms a o h)

-- ---- members that were written one after another

-- the names are distinct, and known, and no value has a name twice
pub record Named (own : Bytes → Bool) (ns : List Bytes) (ms : Members) : Type 0 where
  pub distinct : AreDistinct (keys ms)
  pub known : Known own ns ms
  pub values : MembersHaveUniqueKeys ms

pub once : {own : Bytes → Bool} {ns : List Bytes} {ms : Members} → Named own ns ms → HasUniqueKeys (object ms)
once h = (h.distinct, h.values)

pub nothing : (own : Bytes → Bool) → Named own [] no_members
nothing own = record { distinct = λ i j d lt within. absurd (omega arith); known = tt; values = tt }

pub skipped : {own : Bytes → Bool} {ns : List Bytes} {ms : Members} (k : Bytes) → Named own ns ms → Named own (k ∷ ns) ms
skipped {own} {ns} {ms} k h = record { distinct = h.distinct; known = more_known own k ns ms h.known; values = h.values }

pub named : {own : Bytes → Bool} {ns : List Bytes} {ms : Members} (k : Bytes) (j : Json) → Named own ns ms → HasUniqueKeys j → own k ≡ true → among k ns ≡ false
    → Named own (k ∷ ns) (member k j ms)
named {own} {ns} {ms} k j h u o a = record {
  distinct = AllPairs-cons (λ x y. x ≢ y) k (keys ms) (apart own ns k ms a o h.known) h.distinct;
  known = (inl (or_left (bytes_eq k k) (among k ns) ((bytes_eq-Decides k k).1 refl)), more_known own k ns ms h.known);
  values = (u, h.values);
}

pub named_optional : {X : Type 0} {own : Bytes → Bool} {ns : List Bytes} {ms : Members} (f : X → Json) (k : Bytes) (o : Option X) → Named own ns ms
    → IfSome o (λ x. HasUniqueKeys (f x)) → IfSome o (λ x. own k ≡ true) → among k ns ≡ false → Named own (k ∷ ns) (optional f k o ms)
named_optional f k None h u o a = skipped k h
named_optional f k (Some x) h u o a = named k (f x) h u o a

-- ---- members of a record that takes no names from elsewhere

abbrev pub any_name : Bytes → Bool
any_name k = true

-- of a value that may be there, of which nothing is asked
pub plain : {X : Type 0} (o : Option X) → IfSome o (λ x. ⊤)
plain None = tt
plain (Some x) = tt

mine : {X : Type 0} (o : Option X) → IfSome o (λ x. true ≡ true)
mine None = tt
mine (Some x) = refl

pub must : {ns : List Bytes} {ms : Members} (k : Bytes) (j : Json) → Named any_name ns ms → HasUniqueKeys j → among k ns ≡ false → Named any_name (k ∷ ns) (member k j ms)
must k j h u a = named k j h u refl a

pub may : {X : Type 0} {ns : List Bytes} {ms : Members} (f : X → Json) (k : Bytes) (o : Option X) → Named any_name ns ms
    → IfSome o (λ x. HasUniqueKeys (f x)) → among k ns ≡ false → Named any_name (k ∷ ns) (optional f k o ms)
may f k o h u a = named_optional f k o h u (mine o) a

pub unless : {ns : List Bytes} {ms : Members} (b : Bool) (k : Bytes) (j : Json) → Named any_name ns ms → HasUniqueKeys j → among k ns ≡ false
    → Named any_name (k ∷ ns) (if b then ms else member k j ms)
unless true k j h u a = skipped k h
unless false k j h u a = must k j h u a

-- ---- lists and maps

pub single : (k : Bytes) → AreDistinct (k ∷ [])
single k i j d lt within = absurd (omega arith)

module _ {X : Type 0} (f : X → Json) where
  pub items_once : (P : X → Type 0) → ((x : X) → P x → HasUniqueKeys (f x)) → (xs : List X) → All P xs → ItemsHaveUniqueKeys (items_of f xs)
  items_once P each [] h = tt
  items_once P each (x ∷ xs) h = (each x (All-head P x xs h), items_once P each xs (All-tail P x xs h))

  pub each_once : ((x : X) → HasUniqueKeys (f x)) → (xs : List X) → ItemsHaveUniqueKeys (items_of f xs)
  each_once each [] = tt
  each_once each (x ∷ xs) = (each x, each_once each xs)

  keys-put_entries : (es : List (Bytes × X)) → keys (put_entries f es no_members) ≡ keys_of es
  keys-put_entries [] = refl
  keys-put_entries (e ∷ es) = ap (λ ks. e.0 ∷ ks) (keys-put_entries es)

  entries_once : (P : X → Type 0) → ((x : X) → P x → HasUniqueKeys (f x)) → (es : List (Bytes × X)) → All (λ e. P e.1) es → MembersHaveUniqueKeys (put_entries f es no_members)
  entries_once P each [] h = tt
  entries_once P each (e ∷ es) h = (each e.1 (All-head (λ x. P x.1) e es h), entries_once P each es (All-tail (λ x. P x.1) e es h))

  pub map_once : (P : X → Type 0) → ((x : X) → P x → HasUniqueKeys (f x)) → (es : List (Bytes × X)) → KeysOnce es → All (λ e. P e.1) es → HasUniqueKeys (map_json f es)
  map_once P each es d h = (subst AreDistinct (sym (keys-put_entries es)) d, entries_once P each es h)

  values_once : ((x : X) → HasUniqueKeys (f x)) → (es : List (Bytes × X)) → MembersHaveUniqueKeys (put_entries f es no_members)
  values_once each [] = tt
  values_once each (e ∷ es) = (each e.1, values_once each es)

  pub map_of_each : ((x : X) → HasUniqueKeys (f x)) → (es : List (Bytes × X)) → KeysOnce es → HasUniqueKeys (map_json f es)
  map_of_each each es d = (subst AreDistinct (sym (keys-put_entries es)) d, values_once each es)

  pub may_map : {ns : List Bytes} {ms : Members} (k : Bytes) (es : List (Bytes × X)) → Named any_name ns ms → HasUniqueKeys (map_json f es) → among k ns ≡ false
      → Named any_name (k ∷ ns) (put_map f k es ms)
  may_map k [] h u a = skipped k h
  may_map k (e ∷ es) h u a = must k (map_json f (e ∷ es)) h u a

  pub may_items : {ns : List Bytes} {ms : Members} (k : Bytes) (xs : List X) → Named any_name ns ms → ItemsHaveUniqueKeys (items_of f xs) → among k ns ≡ false
      → Named any_name (k ∷ ns) (put_items f k xs ms)
  may_items k [] h u a = skipped k h
  may_items k (x ∷ xs) h u a = must k (array (items_of f (x ∷ xs))) h u a

  pub may_list : {ns : List Bytes} {ms : Members} (k : Bytes) (xs : List X) → Named any_name ns ms → ItemsHaveUniqueKeys (items_of f xs) → among k ns ≡ false
      → Named any_name (k ∷ ns) (put_list f k xs ms)
  may_list k [] h u a = skipped k h
  may_list k (x ∷ xs) h u a =
      must k (object (member (codes "values") (array (items_of f (x ∷ xs))) no_members)) h (single (codes "values"), (u, tt)) a

pub may_values : {ns : List Bytes} {ms : Members} (k : Bytes) (es : List (Bytes × Data)) → Named any_name ns ms → DataOnce es → among k ns ≡ false
    → Named any_name (k ∷ ns) (put_values k es ms)
may_values k [] h u a = skipped k h
may_values k (e ∷ es) h u a = must k (object (members_json (members_from (e ∷ es)))) h u a

-- ---- values among the members of a record

module _ (own : Bytes → Bool) where
  keys-put_other : (b : Bool) (k : Bytes) (j : Json) (ms : Members) → keys (put_other b k j ms) ≡ cond (not b) (k ∷ keys ms) (keys ms)
  keys-put_other true k j ms = refl
  keys-put_other false k j ms = refl

  keys-put_others : (es : List (Bytes × Data)) → keys (put_others own value_json es no_members) ≡ filter (λ k. not (own k)) (keys (members_json (members_from es)))
  keys-put_others [] = refl
  keys-put_others (e ∷ es) =
      keys-put_other (own e.0) e.0 (value_json e.1) (put_others own value_json es no_members)
      ∙ ap (λ ks. cond (not (own e.0)) (e.0 ∷ ks) ks) (keys-put_others es)

  known-put_other : (b : Bool) (k : Bytes) (j : Json) (ms : Members) → own k ≡ b → Known own [] ms → Known own [] (put_other b k j ms)
  known-put_other true k j ms e h = h
  known-put_other false k j ms e h = (inr e, h)

  known-put_others : (es : List (Bytes × Data)) → Known own [] (put_others own value_json es no_members)
  known-put_others [] = tt
  known-put_others (e ∷ es) = known-put_other (own e.0) e.0 (value_json e.1) (put_others own value_json es no_members) refl (known-put_others es)

  values-put_other : (b : Bool) (k : Bytes) (j : Json) (ms : Members) → HasUniqueKeys j → MembersHaveUniqueKeys ms → MembersHaveUniqueKeys (put_other b k j ms)
  values-put_other true k j ms u h = h
  values-put_other false k j ms u h = (u, h)

  values-put_others : (es : List (Bytes × Data)) → MembersHaveUniqueKeys (members_json (members_from es)) → MembersHaveUniqueKeys (put_others own value_json es no_members)
  values-put_others [] h = tt
  values-put_others (e ∷ es) h = values-put_other (own e.0) e.0 (value_json e.1) (put_others own value_json es no_members) h.0 (values-put_others es h.1)

  pub others_once : (es : List (Bytes × Data)) → DataOnce es → Named own [] (put_others own value_json es no_members)
  others_once es h = record {
    distinct = subst AreDistinct (sym (keys-put_others es)) (AllPairs-filter (λ x y. x ≢ y) (λ k. not (own k)) (keys (members_json (members_from es))) h.0);
    known = known-put_others es;
    values = values-put_others es h.1;
  }
