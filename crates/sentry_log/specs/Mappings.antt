-- The breadcrumb, the event and the log of a record.
use Rattle.std.specs.Prelude.{◌≡◌, ℕ, List, [], Some, codes}
use Rattle.std.specs.Fmt.{signed_decimal}
use Rattle.log.specs.Kv.{Pair, bool_text}
use Rattle.log.specs.Record.{metadata_level, metadata_target, record_metadata}
use Rattle.log.specs.declared.record.Record.{Record}
use Rattle.log.specs.declared.level.Level.{Level}
use Rattle.log.specs.declared.level.Level.TheVariants.{Error, Warn, Info, Debug, Trace}
use Rattle.sentry_base.specs.declared.protocol.breadcrumb.Breadcrumb.{Breadcrumb}
use Rattle.sentry_base.specs.declared.protocol.level.Level as event_level
use Rattle.sentry_base.specs.declared.protocol.level.Level.TheVariants as event
use Rattle.sentry_base.specs.declared.protocol.log.LogLevel.{LogLevel}
use Rattle.sentry_base.specs.declared.protocol.log.LogLevel.TheVariants as log_level
use Rattle.sentry_base.specs.Events.{new_breadcrumb, new_event, nil_id}
use Rattle.sentry_base.specs.declared.protocol.event.Event.{Event}
use Rattle.sentry_base.specs.declared.protocol.log.LogAttribute.{LogAttribute}
use Rattle.sentry_plain.specs.declared.value.Value.{Value}
use Rattle.sentry_plain.specs.declared.value.Value.TheVariants.{Bool, Int, Text}
use Rattle.sentry_plain.specs.Texts.{Bytes, put}
use Rattle.sentry_plain.specs.Values.{Data}
use Rattle.sentry_plain.specs.ValueView.{data_of}

module _ {D K S : Type 0} where
  abbrev pub level_in : Record D K S → Level
  level_in told = metadata_level (record_metadata told)

  abbrev pub target_in : Record D K S → Bytes
  target_in told = metadata_target (record_metadata told)

-- the level of the breadcrumb and of the event
abbrev pub level_of : Level → event_level.Level
level_of Error = event.Error
level_of Warn = event.Warning
level_of Info = event.Info
level_of Debug = event.Debug
level_of Trace = event.Debug

-- the level of the log
abbrev pub log_level_of : Level → LogLevel
log_level_of Error = log_level.Error
log_level_of Warn = log_level.Warn
log_level_of Info = log_level.Info
log_level_of Debug = log_level.Debug
log_level_of Trace = log_level.Trace

-- the attribute that names the target of a record
abbrev pub target_key : Bytes
target_key = codes "logger.target"

-- the breadcrumb of a record with this level, target and text
abbrev pub breadcrumb_of : ℕ → Level → Bytes → Bytes → Breadcrumb
breadcrumb_of now level target text = record (new_breadcrumb now) {
  category = Some target;
  level = level_of level;
  message = Some text;
}

-- attributes, in the order of their keys
abbrev pub Attributes : Type 0
Attributes = List (Bytes × LogAttribute)

-- the value is the truth value, the whole number or the text that prints so
abbrev pub PrintsAs : Value → Bytes → Type 0
PrintsAs (Bool is_so) text = text ≡ bool_text is_so
PrintsAs (Int number) text = text ≡ signed_decimal number
PrintsAs (Text shown) text = text ≡ shown
PrintsAs other text = ⊥

-- the attributes after a pair: its key has a value that prints as the pair's
abbrev pub AddsPair : Attributes → Pair → Attributes → Type 0
AddsPair before pair after = (value : Value) × PrintsAs value pair.1 × (after ≡ put before pair.0 (record { 0 = value }))

-- the attribute of a text
abbrev pub text_attribute : Bytes → LogAttribute
text_attribute text = record { 0 = Text text }

-- values, in the order of their keys
abbrev pub Extras : Type 0
Extras = List (Bytes × Data)

-- the values after a pair: its key has a value that prints as the pair's
abbrev pub AddsExtra : Extras → Pair → Extras → Type 0
AddsExtra before pair after = (value : Value) × PrintsAs value pair.1 × (after ≡ put before pair.0 (data_of value))

-- the event of a record with this level, target and text, whose id is drawn when it is captured
abbrev pub event_of : ℕ → Level → Bytes → Bytes → Extras → Event
event_of now level target text extra = record (new_event nil_id now) {
  level = level_of level;
  message = Some text;
  tags = put [] (codes "logger") target;
  extra = extra;
}
