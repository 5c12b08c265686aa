-- Members that are written in a loop, and members that are there only where a map or a list has entries.
use Rattle.std.proofs.Common.{◌≡◌, ◌<◌, List, [], ◌∷◌, ◌++◌, length, refl, ◌∙◌, arith}
use Rattle.json.specs.Json.{Json, array, Members, member}
use Rattle.json.specs.Tree.{members_tokens}
use Rattle.json.specs.Written.{Written}
use Rattle.sentry_plain.specs.Texts.{Bytes}
use Rattle.sentry_framing.specs.Json.{Puts, items_of}
use Rattle.sentry_envelope.specs.Members.{map_json, put_map, put_items}

-- of members that are being written, `left` leads to `all`, whatever follows
pub record Leads (first now : Written) (left all : Members → Members) : Type 0 where
  pub tokens : (rest : Members) → now.tokens ++ members_tokens (left rest) ≡ first.tokens ++ members_tokens (all rest)
  pub before : now.before ≡ first.before

-- no member is written yet
pub leads_all : (w : Written) (all : Members → Members) → Leads w w all all
leads_all w all = record { tokens = λ rest. refl; before = refl }

-- one more member is written
pub leads_on : {first now next : Written} {put left all : Members → Members} → Leads first now (λ rest. put (left rest)) all → Puts now next put
    → Leads first next left all
leads_on {left = left} l p = record { tokens = λ rest. p.tokens (left rest) ∙ l.tokens rest; before = p.before ∙ l.before }

-- all members are written
pub leads_none : {first now : Written} {all : Members → Members} → Leads first now (λ rest. rest) all → Puts first now all
leads_none l = record { tokens = l.tokens; before = l.before }

pub put_map-some : {X : Type 0} (f : X → Json) (key : Bytes) (es : List (Bytes × X)) → 0 < length es → (rest : Members)
    → member key (map_json f es) rest ≡ put_map f key es rest
put_map-some f key [] h rest = absurd (omega arith)
put_map-some f key (e ∷ es) h rest = refl

pub put_items-some : {X : Type 0} (f : X → Json) (key : Bytes) (xs : List X) → 0 < length xs → (rest : Members)
    → member key (array (items_of f xs)) rest ≡ put_items f key xs rest
put_items-some f key [] h rest = absurd (omega arith)
put_items-some f key (x ∷ xs) h rest = refl
