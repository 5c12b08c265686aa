-- How many layers name each record of a kind.
use Rattle.std.specs.Prelude.{◌≡◌, ℕ, ◌+◌, ◌≤◌, ◌==◌, Bool, false, Option, Some, None, if◌then◌else◌, count_by, length, sum, vec_capacity}
use Rattle.std.specs.Option.{is_some}
use Rattle.std.specs.Map.{values_of}
use Rattle.sentry_plain.specs.Counts.{count_at, one_if}
use Rattle.sentry_hub_table.specs.declared.tally.Key.{Key}
use Rattle.sentry_hub_table.specs.declared.tally.Tally.{Tally}
pub use Rattle.sentry_hub_table.specs.Entries.{is_key}

-- a record is named, and it is the one of this key
abbrev pub is_named : Key → Option Key → Bool
is_named key None = false
is_named key (Some named) = is_key key named

-- how many layers name the record of a key
abbrev pub tally_at : Tally → Key → ℕ
tally_at tally key =
    (if key.tag == tally.tag then count_at tally.counts key.number else 0) + count_by (is_key key) tally.late.items

-- how many layers name a record
abbrev pub tally_total : Tally → ℕ
tally_total tally = sum (values_of tally.counts) + length tally.late.items

-- each number is as before, and there is at least as much room
pub record Keeps (old new : Tally) : Type 0 where
  pub each : (key : Key) → tally_at new key ≡ tally_at old key
  pub total : tally_total new ≡ tally_total old
  pub room : vec_capacity old.late ≤ vec_capacity new.late

-- one more layer names this record, or the same name none
pub record Raises (old new : Tally) (name : Option Key) : Type 0 where
  pub each : (key : Key) → tally_at new key ≡ tally_at old key + one_if (is_named key name)
  pub total : tally_total new ≡ tally_total old + one_if (is_some name)
  pub room : vec_capacity new.late ≡ vec_capacity old.late

-- one layer less names this record, or the same name none
pub record Lowers (old new : Tally) (name : Option Key) : Type 0 where
  pub each : (key : Key) → tally_at old key ≡ tally_at new key + one_if (is_named key name)
  pub total : tally_total old ≡ tally_total new + one_if (is_some name)
  pub room : vec_capacity new.late ≡ vec_capacity old.late
