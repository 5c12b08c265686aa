use Rattle.std.proofs.Common.{◌≡◌, [], drop}
use Rattle.serde_json.specs.View.{items_view, members_view}
use Rattle.sentry_texts.specs.Json.{items_onto, members_onto}
use Rattle.sentry_texts.proofs.json.+convert.Given as goal

-- what is left leads to the whole
abbrev pub invariant-values_of-loop-item : goal.invariant-values_of-loop-item
invariant-values_of-loop-item l =
    items_onto l.values (items_view (drop l.item-index l.item-items)) ≡ items_onto [] (items_view l.item-items)

abbrev pub invariant-map_of-loop-key : goal.invariant-map_of-loop-key
invariant-map_of-loop-key l =
    members_onto l.map (members_view l.key-iterator) ≡ members_onto [] (members_view l.members.entries)
