-- Which records have an entry of their own.
use Rattle.std.specs.Prelude.{ℕ, ◌==◌, ◌&&◌, Bool, List}
use Rattle.std.specs.Option.{is_some}
use Rattle.sentry_plain.specs.Tables.{value_at}
use Rattle.sentry_hub_table.specs.declared.tally.Key.{Key}

-- the key is this one
abbrev pub is_key : Key → Key → Bool
is_key key other = (other.tag == key.tag) && (other.number == key.number)

abbrev pub has_entry : List (ℕ × ℕ) → ℕ → Bool
has_entry counts n = is_some (value_at counts n)
