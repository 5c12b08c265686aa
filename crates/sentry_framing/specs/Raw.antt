-- What the bytes are that an envelope was taken apart into.
use Rattle.std.specs.Prelude.{◌≡◌, ℕ, ◌-◌, ◌^◌, min, List, Option, Some, map, option_map}
use Rattle.json.specs.Json.{Json, document}
use Rattle.sentry_framing.specs.Json.{Bytes}
use Rattle.sentry_framing.specs.Lines.{Item}
use Rattle.sentry_framing.specs.Receiver.{stated_length}
use Rattle.sentry_framing.specs.declared.raw.RawEnvelope.{RawEnvelope}
use Rattle.sentry_framing.specs.declared.raw.RawItem.{RawItem}
use Rattle.sentry_framing.specs.declared.raw.RawHeader.{RawHeader}

-- the value of an item's header, if its text has one, and the payload
abbrev pub raw_item : RawItem → Option Json × Bytes
raw_item raw = (document raw.header.now, raw.payload.now)

-- the same of an item that was read
abbrev pub known_item : Item → Option Json × Bytes
known_item i = (Some i.0, i.1)

-- an item that was read, and what follows it
abbrev pub known_read : Item × Bytes → (Option Json × Bytes) × Bytes
known_read p = (known_item p.0, p.1)

abbrev pub raw_envelope : RawEnvelope → Option Json × List (Option Json × Bytes)
raw_envelope raw = (document raw.header.now, map raw_item raw.items.items)

abbrev pub known_envelope : Json × List Item → Option Json × List (Option Json × Bytes)
known_envelope e = (Some e.0, map known_item e.1)

-- ---- for clauses of private functions

-- a number, or the greatest of 64 bits where it is above that
abbrev pub no_more : ℕ → ℕ
no_more = min (2 ^ 64 - 1)

-- a header that was read as this value
pub record IsHeaderOf (header : RawHeader) (j : Json) : Type 0 where
  pub text : document header.text.now ≡ Some j
  pub length : header.length ≡ option_map no_more (stated_length j)
