use Rattle.std.proofs.Common.{◌≤◌, map}
use denote.Param.Weighed.{most}
use Rattle.sentry_plain.specs.Values.{member_sizes}
use Rattle.sentry_plain.specs.declared.value.ValueMap.TheDeep.{deep-Value}
use Rattle.scenario_print.proofs.values.+json.Given as goal

-- the values that are left are no deeper than the map
abbrev pub invariant-push_json_map-loop-key : goal.invariant-push_json_map-loop-key
invariant-push_json_map-loop-key l = most deep-Value (map (λ e. e.1) l.key-iterator) ≤ member_sizes l.map
