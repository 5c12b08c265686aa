-- What JSON is as a plain value: a number that is no whole number of 64 bits refuses the whole.
use Rattle.std.specs.Prelude.{ℕ, pos, List, [], ◌∷◌, ◌++◌, Option, Some, None}
use Rattle.std.specs.Option.{option_map, option_and_then}
use Rattle.serde_json.specs.Data as json
use Rattle.sentry_plain.specs.Texts.{Bytes, put}
use Rattle.sentry_plain.specs.ValueView.{items_from, members_from}
use Rattle.sentry_plain.specs.Values as plain

abbrev pub number_of : json.Num → Option plain.Data
number_of (json.unsigned n) = Some (plain.integer (pos n))
number_of (json.negative z) = Some (plain.integer z)
number_of (json.float x) = None

abbrev mutual
  pub plain_of : json.Data → Option plain.Data
  plain_of json.null = Some plain.null
  plain_of (json.boolean b) = Some (plain.boolean b)
  plain_of (json.number n) = number_of n
  plain_of (json.string s) = Some (plain.text s)
  plain_of (json.array items) = option_map (λ xs. plain.list (items_from xs)) (items_onto [] items)
  plain_of (json.object members) = option_map (λ es. plain.map_of (members_from es)) (members_onto [] members)

  -- what stands, and then each item
  pub items_onto : List plain.Data → json.Items → Option (List plain.Data)
  items_onto done json.no_items = Some done
  items_onto done (json.item d items) = option_and_then (λ x. items_onto (done ++ x ∷ []) items) (plain_of d)

  -- what stands, with each member in turn
  pub members_onto : List (Bytes × plain.Data) → json.Members → Option (List (Bytes × plain.Data))
  members_onto done json.no_members = Some done
  members_onto done (json.member k d members) =
      option_and_then (λ x. members_onto (put done k x) members) (plain_of d)
