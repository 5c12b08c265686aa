-- The names that levels, statuses and units have in Sentry's format.
use Rattle.std.specs.Prelude.{List, ℕ, codes}
use Rattle.sentry_base.specs.declared.protocol.level.Level.{Level}
use Rattle.sentry_base.specs.declared.protocol.level.Level.TheVariants as level
use Rattle.sentry_base.specs.declared.protocol.log.LogLevel.{LogLevel}
use Rattle.sentry_base.specs.declared.protocol.log.LogLevel.TheVariants as log_level
use Rattle.sentry_base.specs.declared.protocol.session.SessionStatus.{SessionStatus}
use Rattle.sentry_base.specs.declared.protocol.session.SessionStatus.TheVariants as session_status
use Rattle.sentry_base.specs.declared.protocol.context.SpanStatus.{SpanStatus}
use Rattle.sentry_base.specs.declared.protocol.context.SpanStatus.TheVariants as span_status
use Rattle.sentry_base.specs.declared.protocol.metric.MetricType.{MetricType}
use Rattle.sentry_base.specs.declared.protocol.metric.MetricType.TheVariants as metric_type
use Rattle.sentry_base.specs.declared.protocol.unit.Unit.{Unit}
use Rattle.sentry_base.specs.declared.protocol.unit.Unit.TheVariants as unit

abbrev pub level_name : Level → List ℕ
level_name level.Debug = codes "debug"
level_name level.Info = codes "info"
level_name level.Warning = codes "warning"
level_name level.Error = codes "error"
level_name level.Fatal = codes "fatal"

abbrev pub log_level_name : LogLevel → List ℕ
log_level_name log_level.Trace = codes "trace"
log_level_name log_level.Debug = codes "debug"
log_level_name log_level.Info = codes "info"
log_level_name log_level.Warn = codes "warn"
log_level_name log_level.Error = codes "error"
log_level_name log_level.Fatal = codes "fatal"

abbrev pub session_status_name : SessionStatus → List ℕ
session_status_name session_status.Ok = codes "ok"
session_status_name session_status.Exited = codes "exited"
session_status_name session_status.Crashed = codes "crashed"
session_status_name session_status.Abnormal = codes "abnormal"

abbrev pub span_status_name : SpanStatus → List ℕ
span_status_name span_status.Ok = codes "ok"
span_status_name span_status.DeadlineExceeded = codes "deadline_exceeded"
span_status_name span_status.Unauthenticated = codes "unauthenticated"
span_status_name span_status.PermissionDenied = codes "permission_denied"
span_status_name span_status.NotFound = codes "not_found"
span_status_name span_status.ResourceExhausted = codes "resource_exhausted"
span_status_name span_status.InvalidArgument = codes "invalid_argument"
span_status_name span_status.Unimplemented = codes "unimplemented"
span_status_name span_status.Unavailable = codes "unavailable"
span_status_name span_status.InternalError = codes "internal_error"
span_status_name span_status.UnknownError = codes "unknown_error"
span_status_name span_status.Cancelled = codes "cancelled"
span_status_name span_status.AlreadyExists = codes "already_exists"
span_status_name span_status.FailedPrecondition = codes "failed_precondition"
span_status_name span_status.Aborted = codes "aborted"
span_status_name span_status.OutOfRange = codes "out_of_range"
span_status_name span_status.DataLoss = codes "data_loss"

abbrev pub metric_type_name : MetricType → List ℕ
metric_type_name metric_type.Counter = codes "counter"
metric_type_name metric_type.Gauge = codes "gauge"
metric_type_name metric_type.Distribution = codes "distribution"

abbrev pub unit_name : Unit → List ℕ
unit_name unit.Nanosecond = codes "nanosecond"
unit_name unit.Microsecond = codes "microsecond"
unit_name unit.Millisecond = codes "millisecond"
unit_name unit.Second = codes "second"
unit_name unit.Minute = codes "minute"
unit_name unit.Hour = codes "hour"
unit_name unit.Day = codes "day"
unit_name unit.Week = codes "week"
unit_name unit.Bit = codes "bit"
unit_name unit.Byte = codes "byte"
unit_name unit.Kilobyte = codes "kilobyte"
unit_name unit.Megabyte = codes "megabyte"
unit_name unit.Ratio = codes "ratio"
unit_name unit.Percent = codes "percent"
unit_name (unit.Other name) = name
