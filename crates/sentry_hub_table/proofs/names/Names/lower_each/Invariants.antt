use Rattle.std.proofs.Common.{take}
use Rattle.sentry_hub_table.specs.Names.{LowersLayers}
use Rattle.sentry_hub_table.proofs.names.Names.lower_each.Given as goal

-- the layers so far are gone
abbrev pub invariant-loop-layer : goal.invariant-loop-layer
invariant-loop-layer g l = LowersLayers l.initial.self l.self (take l.layer-index l.layers)
