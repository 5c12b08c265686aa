-- Exceptions, each with the stack trace at its index.
use Rattle.std.proofs.Common.{◌≡◌, ℕ, ◌+◌, ◌<◌, ◌≤◌, List, [], ◌∷◌, Option, None, length, drop, get_or, subst, add-one, drop-cons, codes, refl, arith}
use Rattle.std.proofs.lemmas.List.{drop_all}
use Rattle.json.specs.Token.{Token}
use Rattle.json.specs.Json.{array, object, Members, no_members, member}
use Rattle.json.specs.Tree.{json_tokens, items_tokens}
use Rattle.json.specs.Written.{Written}
use Rattle.sentry_plain.specs.declared.value.Value.{Value}
use Rattle.sentry_base.specs.declared.protocol.exception.Exception.{Exception}
use Rattle.sentry_framing.specs.Json.{Adds, Left}
use Rattle.sentry_framing.proofs.Lists.{less}
use Rattle.sentry_envelope.specs.Events.{exception_json, exceptions_json, put_exceptions}

-- the tokens of the exceptions from an index on
abbrev pub left_from : List (Option Value) → ℕ → List Exception → List Token
left_from stacktraces i es = items_tokens (exceptions_json stacktraces i es)

-- one more exception is written
pub next_exception : {first now next : Written} (stacktraces : List (Option Value)) (es : List Exception) (i : ℕ) (d : Exception) {all : List Token} → i < length es
    → Left first now (left_from stacktraces i (drop i es)) all
    → Adds now next (json_tokens (exception_json (get_or stacktraces i None) (get_or es i d)))
    → Left first next (left_from stacktraces (i + 1) (drop (i + 1) es)) all
next_exception {first = first} {now = now} stacktraces es i d {all = all} h l w =
    let at : drop i es ≡ get_or es i d ∷ drop (i + 1) es = rw add-one (drop-cons es i d h) in
    less (subst (λ (rest : List Exception). Left first now (left_from stacktraces i rest) all) at l) w

-- all exceptions are written
pub no_exception : {first now : Written} (stacktraces : List (Option Value)) (es : List Exception) (i : ℕ) {all : List Token} → length es ≤ i
    → Left first now (left_from stacktraces i (drop i es)) all → Left first now (Token.end_array ∷ []) all
no_exception {first = first} {now = now} stacktraces es i {all = all} h l =
    subst (λ (rest : List Exception). Left first now (left_from stacktraces i rest) all) (drop_all i es h) l

pub put_exceptions-some : (stacktraces : List (Option Value)) (es : List Exception) → 0 < length es → (rest : Members)
    → member (codes "exception") (object (member (codes "values") (array (exceptions_json stacktraces 0 es)) no_members)) rest ≡ put_exceptions stacktraces es rest
put_exceptions-some stacktraces [] h rest = absurd (omega arith)
put_exceptions-some stacktraces (e ∷ es) h rest = refl

pub put_exceptions-none : (stacktraces : List (Option Value)) (es : List Exception) → length es ≡ 0 → (rest : Members)
    → put_exceptions stacktraces [] rest ≡ put_exceptions stacktraces es rest
put_exceptions-none stacktraces [] h rest = refl
put_exceptions-none stacktraces (e ∷ es) h rest = absurd (omega arith)
