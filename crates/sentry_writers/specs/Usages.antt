-- What the files of a folder take.
use Rattle.std.specs.Prelude.{ℕ, ◌+◌, ◌≤◌, leb, ◌&&◌, Option, Some, None, if◌then◌else◌}
use Rattle.sentry_writers.specs.declared.folder.Usage.{Usage}

-- with one more file of this length
abbrev pub and_file : ℕ → Usage → Usage
and_file length usage = record { files = usage.files + 1; bytes = usage.bytes + length }

-- the same, if that is within the limits
abbrev pub with_file : Usage → ℕ → Usage → Option Usage
with_file limits length usage =
    if leb (usage.files + 1) limits.files && leb (usage.bytes + length) limits.bytes then Some (and_file length usage) else None

-- a file of this length was counted, and what there is then is within the limits
abbrev pub IsWithin : Usage → ℕ → Usage → Type 0
IsWithin limits length usage = (usage.files ≤ limits.files) × (usage.bytes ≤ limits.bytes) × (length ≤ usage.bytes)
