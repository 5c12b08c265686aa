use Rattle.std.proofs.Common.{arith, ◌≡◌, ℕ, ◌≤◌, ◌<◌, List, ◌∷◌, String, Global, string_bytes, slice_index_or, length, map, ap}
use denote.Param.Weighed.{most, at_most}
use Rattle.sentry_plain.specs.Texts.{Bytes, by_bytes}
use Rattle.sentry_plain.specs.ValueView.{data_of}
use Rattle.sentry_plain.specs.Values.{Data, data_sizes, member_sizes}
use Rattle.sentry_plain.specs.ValueSizes.{values_fall, entries_fall}
use Rattle.sentry_plain.specs.declared.value.Value.{Value}
use Rattle.sentry_plain.specs.declared.value.Values.TheView.{size as list_size}
use Rattle.sentry_plain.specs.declared.value.ValueMap.TheView.{size as map_size}
use Rattle.sentry_plain.specs.declared.value.ValueMap.TheDeep.{deep-Value}
use Rattle.scenario_print.proofs.values.+json.Goals as goal

item_falls : (vs : List Value) (ds : List Data) (v : Value) (i : ℕ) → map data_of vs ≡ ds → i < length vs → v ≡ slice_index_or vs i v → deep-Value v ≤ list_size ds
item_falls vs ds v i same below is =
    let all : most deep-Value vs ≤ data_sizes (map data_of vs) = values_fall vs in
    let whole : data_sizes (map data_of vs) ≡ list_size ds = ap data_sizes same in
    let one : deep-Value (slice_index_or vs i v) ≤ most deep-Value vs = at_most deep-Value vs i v below in
    let same_one : deep-Value v ≡ deep-Value (slice_index_or vs i v) = ap deep-Value is in omega arith

pub push_json_list-push_json-requires : goal.push_json_list-push_json-requires
push_json_list-push_json-requires t c =
    let falls = item_falls _ _ _ _ c.as_slice-value-items.ensures c.loop-value-test.true c.value-item.is in (omega (arith, falls), tt)

-- how deep the values of entries are
abbrev depth : List (String Global × Value) → ℕ
depth entries = most deep-Value (map (λ e. e.1) entries)

entries_fall_in : (entries left : List (String Global × Value)) (m : List (Bytes × Data)) → left ≡ entries → by_bytes data_of entries ≡ m → depth left ≤ map_size m
entries_fall_in entries left m same shown =
    let all : depth entries ≤ member_sizes (by_bytes data_of entries) = entries_fall string_bytes entries in
    let whole : member_sizes (by_bytes data_of entries) ≡ map_size m = ap member_sizes shown in
    let same_depth : depth left ≡ depth entries = ap depth same in omega arith

one_and_rest_fall : (entries left : List (String Global × Value)) (e : String Global × Value) (n : ℕ) → entries ≡ e ∷ left → depth entries ≤ n → (deep-Value e.1 ≤ n) × (depth left ≤ n)
one_and_rest_fall entries left e n is below =
    let depths : depth entries ≡ depth (e ∷ left) = ap depth is in (omega arith, omega arith)

pub push_json_map-loop-key-init : goal.push_json_map-loop-key-init
push_json_map-loop-key-init t c = entries_fall_in _ _ _ c.into_iter-key-iterator.ensures.into_iter_gives c.iter-key-items.ensures.rest

pub push_json_map-push_json-requires : goal.push_json_map-push_json-requires
push_json_map-push_json-requires t c =
    let falls = one_and_rest_fall _ _ _ _ c.in-Some.ensures.steps c.loop-key.invariant in (omega (arith, falls.0), tt)

pub push_json_map-loop-key-preserved : goal.push_json_map-loop-key-preserved
push_json_map-loop-key-preserved t c = (one_and_rest_fall _ _ _ _ c.in-Some.ensures.steps c.loop-key.invariant).1
