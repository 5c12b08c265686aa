-- The numbers by which C names the types of metrics.
use Rattle.std.specs.Prelude.{ℕ}
use Rattle.sentry_base.specs.declared.protocol.metric.MetricType.{MetricType}
use Rattle.sentry_base.specs.declared.protocol.metric.MetricType.TheVariants.{Counter, Gauge, Distribution}

abbrev pub metric_type_number : MetricType → ℕ
metric_type_number Counter = 0
metric_type_number Gauge = 1
metric_type_number Distribution = 2
