-- What numbers from other languages stand for.
use Rattle.std.specs.Prelude.{ℕ, zero, suc, ◌+◌, ◌*◌, ◌/◌, ◌%◌, ◌^◌, List, Option, Some, None}
use Rattle.std.specs.Int.{w64, w128, to_be_bytes, from_be_bytes}
use Rattle.sentry_base.specs.declared.protocol.fresh.Fresh.{Fresh}
use Rattle.sentry_base.specs.declared.protocol.level.Level.{Level}
use Rattle.sentry_base.specs.declared.protocol.level.Level.TheVariants as level
use Rattle.sentry_base.specs.declared.protocol.log.LogLevel.{LogLevel}
use Rattle.sentry_base.specs.declared.protocol.log.LogLevel.TheVariants as log_level
use Rattle.sentry_base.specs.declared.protocol.session.SessionStatus.{SessionStatus}
use Rattle.sentry_base.specs.declared.protocol.session.SessionStatus.TheVariants as status
use Rattle.c_base.specs.declared.ids.Id.{Id}
use Rattle.c_base.specs.declared.ids.FreshNumbers.{FreshNumbers}

-- the bytes of 128 bits, the highest first
abbrev pub id_bytes : Id → List ℕ
id_bytes id = to_be_bytes w128 (id.high * 2 ^ 64 + id.low)

-- the bits of an id by its bytes
unfoldable pub id_of : List ℕ → Id
id_of bytes = record { high = from_be_bytes w128 bytes / 2 ^ 64; low = from_be_bytes w128 bytes % 2 ^ 64 }

-- the same, or no bits
abbrev pub id_or_nil : Option (List ℕ) → Id
id_or_nil None = record { high = 0; low = 0 }
id_or_nil (Some bytes) = id_of bytes

abbrev pub fresh_of : FreshNumbers → Fresh
fresh_of numbers = record {
  now = numbers.now;
  uuid = id_bytes numbers.id;
  trace_id = record { 0 = id_bytes numbers.trace };
  span_id = record { 0 = to_be_bytes w64 numbers.span };
  draw = numbers.draw;
}

-- the level of a number; numbers from 5 on stand for none
abbrev pub level_of : ℕ → Level
level_of zero = level.Debug
level_of (suc zero) = level.Info
level_of (suc (suc zero)) = level.Warning
level_of (suc (suc (suc zero))) = level.Error
level_of n = level.Fatal

-- the level of a log by its number; numbers from 6 on stand for none
abbrev pub log_level_of : ℕ → LogLevel
log_level_of zero = log_level.Trace
log_level_of (suc zero) = log_level.Debug
log_level_of (suc (suc zero)) = log_level.Info
log_level_of (suc (suc (suc zero))) = log_level.Warn
log_level_of (suc (suc (suc (suc zero)))) = log_level.Error
log_level_of n = log_level.Fatal

-- how a session ends by its number; numbers from 4 on stand for nothing
abbrev pub status_of : ℕ → SessionStatus
status_of zero = status.Ok
status_of (suc zero) = status.Exited
status_of (suc (suc zero)) = status.Crashed
status_of n = status.Abnormal
