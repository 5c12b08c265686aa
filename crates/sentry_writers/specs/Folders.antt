-- What is asked of a folder, and what that makes of it.
use Rattle.std.specs.Prelude.{◌≡◌, Bool, true, false, ◌⊎◌, List, [], ◌∷◌, codes}
use Rattle.sentry_plain.specs.Texts.{Bytes}

-- a call, and whether it was done
pub data FolderCall : Type 0 where
  -- a file of this name was to be made, of these bytes
  write_call : Bytes → Bytes → Bool → FolderCall
  -- the file of one name was to get another
  rename_call : Bytes → Bytes → Bool → FolderCall
  remove_call : Bytes → Bool → FolderCall

-- these calls, in this order, led from the first state to the last
abbrev pub Runs : {S : Type 0} → (S → FolderCall → S → Type 0) → List FolderCall → S → S → Type 0
Runs does [] first last = last ≡ first
Runs does (call ∷ calls) first last = (next : _) × does first call next × Runs does calls next last

-- the calls that try a folder: an empty file is written, under a name that no envelope gets, and removed
abbrev pub trial_calls : List FolderCall
trial_calls =
    let name = codes "00000000000000000000-00000000000000000000.part" in
    write_call name [] true ∷ remove_call name true ∷ []

module _ (partial name text : Bytes) where
  -- the calls that put a file into a folder: it is written under a first name, and then gets its own
  abbrev pub put_calls : List FolderCall
  put_calls = write_call partial text true ∷ rename_call partial name true ∷ []

  -- the calls of a try that failed, at the first or at the second: what may stand under the first name is to go
  abbrev pub write_failed : Bool → List FolderCall
  write_failed removed = write_call partial text false ∷ remove_call partial removed ∷ []

  abbrev pub rename_failed : Bool → List FolderCall
  rename_failed removed = write_call partial text true ∷ rename_call partial name false ∷ remove_call partial removed ∷ []

  -- the calls by which a file was put into a folder, or was not
  abbrev pub ArePutCalls : Bool → List FolderCall → Type 0
  ArePutCalls true calls = calls ≡ put_calls
  ArePutCalls false calls = (removed : Bool) × ((calls ≡ write_failed removed) ⊎ (calls ≡ rename_failed removed))

  -- a file was put into the folder, or was not
  abbrev pub PutsFile : {S : Type 0} → (S → FolderCall → S → Type 0) → Bool → S → S → Type 0
  PutsFile does done first last = (calls : List FolderCall) × ArePutCalls done calls × Runs does calls first last
