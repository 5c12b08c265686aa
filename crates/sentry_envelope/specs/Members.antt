-- Maps and lists as members of objects.
use Rattle.std.specs.Prelude.{Bool, List, [], ◌∷◌, if◌then◌else◌}
use Rattle.json.specs.Json.{Json, array, object, Members, no_members, member}
use Rattle.sentry_plain.specs.Texts.{Bytes}
use Rattle.sentry_framing.specs.Json.{items_of}

-- a member for each entry, before others
abbrev pub put_entries : {X : Type 0} → (X → Json) → List (Bytes × X) → Members → Members
put_entries to_json [] rest = rest
put_entries to_json (e ∷ es) rest = member e.0 (to_json e.1) (put_entries to_json es rest)

-- a member, unless the record has one of its name itself
abbrev pub put_other : Bool → Bytes → Json → Members → Members
put_other own key j rest = if own then rest else member key j rest

-- a member for each entry whose name no member of the record itself has, before others
abbrev pub put_others : {X : Type 0} → (Bytes → Bool) → (X → Json) → List (Bytes × X) → Members → Members
put_others own to_json [] rest = rest
put_others own to_json (e ∷ es) rest = put_other (own e.0) e.0 (to_json e.1) (put_others own to_json es rest)

-- a map as an object
abbrev pub map_json : {X : Type 0} → (X → Json) → List (Bytes × X) → Json
map_json to_json es = object (put_entries to_json es no_members)

-- a map, if it has entries
abbrev pub put_map : {X : Type 0} → (X → Json) → Bytes → List (Bytes × X) → Members → Members
put_map to_json key [] rest = rest
put_map to_json key (e ∷ es) rest = member key (map_json to_json (e ∷ es)) rest

-- a list, if it has items
abbrev pub put_items : {X : Type 0} → (X → Json) → Bytes → List X → Members → Members
put_items to_json key [] rest = rest
put_items to_json key (x ∷ xs) rest = member key (array (items_of to_json (x ∷ xs))) rest
