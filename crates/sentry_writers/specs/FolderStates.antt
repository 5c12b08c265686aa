-- Folders, as whoever looks into one finds them while calls are made.
use Rattle.std.specs.Prelude.{◌≡◌, ◌≢◌, true, false, ◌⊎◌, Option, Some, None, List, [], ◌∷◌}
use Rattle.sentry_plain.specs.Texts.{Bytes}
use Rattle.sentry_writers.specs.Folders.{FolderCall, write_call, rename_call, remove_call}

-- what the file of each name has, if there is one
abbrev pub Files : Type 0
Files = Bytes → Option Bytes

-- no file is another, but for those of these names
abbrev pub KeepsBut : Bytes → Files → Files → Type 0
KeepsBut name old new = (other : Bytes) → other ≢ name → new other ≡ old other

abbrev pub KeepsButTwo : Bytes → Bytes → Files → Files → Type 0
KeepsButTwo name another old new = (other : Bytes) → other ≢ name → other ≢ another → new other ≡ old other

-- what a call may make of a folder: where a write failed, any part of the bytes may be there
abbrev pub MayMake : Files → FolderCall → Files → Type 0
MayMake old (write_call name bytes true) new = (new name ≡ Some bytes) × KeepsBut name old new
MayMake old (write_call name bytes false) new = KeepsBut name old new
MayMake old (rename_call from to true) new = (new to ≡ old from) × (new from ≡ None) × KeepsButTwo from to old new
MayMake old (rename_call from to false) new = new ≡ old
MayMake old (remove_call name done) new = KeepsBut name old new

-- before the first call, between two of them or after the last
abbrev pub IsSeenAlong : List FolderCall → Files → Files → Type 0
IsSeenAlong [] old seen = seen ≡ old
IsSeenAlong (call ∷ calls) old seen = (seen ≡ old) ⊎ ((next : Files) × MayMake old call next × IsSeenAlong calls next seen)

-- but for the first name, each file is as it was, or is the new one, whole
abbrev pub ShowsWhole : Bytes → Bytes → Bytes → Files → Files → Type 0
ShowsWhole partial name text old seen =
    KeepsButTwo partial name old seen × ((seen name ≡ old name) ⊎ (seen name ≡ Some text))
