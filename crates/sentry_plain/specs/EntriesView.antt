-- What the entries of a map are, by how they lie in memory.
use Rattle.std.specs.Prelude.{◌≡◌, ℕ, ◌+◌, ◌≤◌, List, ◌++◌, length}
use Rattle.std.specs.List.Sorted.{IsStrictlySortedBy}
use Rattle.std.specs.Map.{keys_of}
use Rattle.sentry_plain.specs.Parts.{AllFilled, joined}
use Rattle.sentry_plain.specs.Texts.{Bytes, put, text_cmp}
use Rattle.sentry_plain.specs.declared.text_map.entries.Body.{Body}

module _ {V : Type 0} where
  -- the entries in the order of the keys' bytes
  abbrev pub entries_of : Body V → List (Bytes × V)
  entries_of body = body.first ++ joined body.others.items

  -- the keys rise from part to part, and only the first part may be empty
  pub record InOrder (body : Body V) : Type 0 where
    pub order : IsStrictlySortedBy text_cmp (keys_of (entries_of body))
    pub filled : AllFilled body.others.items

  -- in order, and so many
  pub record IsCounted (body : Body V) (count : ℕ) : Type 0 where
    pub all : InOrder body
    pub number : count ≡ length (entries_of body)

  -- the same entries, in order
  pub record IsSameBody (old new : Body V) : Type 0 where
    pub same : entries_of new ≡ entries_of old
    pub all : InOrder new

  -- the entries with a value put in, which are so many more
  pub record HasPut (old new : Body V) (k : Bytes) (v : V) (more : ℕ) : Type 0 where
    pub entries : entries_of new ≡ put (entries_of old) k v
    pub all : InOrder new
    pub number : length (entries_of new) ≡ length (entries_of old) + more
    pub one : more ≤ 1
