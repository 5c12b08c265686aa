use Rattle.std.proofs.Common.{◌≡◌}
use Rattle.sentry_scope.specs.Fills.{KeepsOwn}
use Rattle.sentry_pipeline.specs.Pipeline.{fill_defaults}
use Rattle.sentry_pipeline.proofs.pipeline.attributes.fill_defaults.Given as goal

-- the defaults that are left lead to the whole
abbrev pub invariant-loop-key : goal.invariant-loop-key
invariant-loop-key l = record {
  rest : fill_defaults l.key-iterator l.attributes ≡ fill_defaults l.defaults l.fn.attributes;
  own : KeepsOwn l.attributes l.fn.attributes;
}
