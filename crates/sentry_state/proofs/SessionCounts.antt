-- How many sessions each client has.
use Rattle.std.proofs.Common.{◌≡◌, refl, ap, ◌∙◌, sym, ℕ, List, [], ◌∷◌, Bool, true, false, cond, arith}
use Rattle.std.specs.Prelude.{Option, Some, None, ◌==◌, ◌&&◌, nat_lt}
use Rattle.std.specs.List.{list_any, sum_by}
use Rattle.std.specs.Map.{values_of}
use Rattle.std.specs.BTreeMap.{is_at}
use Rattle.std.specs.Ordering.{nat_cmp}
use Rattle.std.proofs.lemmas.Bool.{and_parts}
use Rattle.std.proofs.lemmas.List.Sums.{sum_by-cons}
use Rattle.sentry_base.specs.declared.protocol.keys.ClientKey.{ClientKey}
use Rattle.sentry_scope.specs.Stacks.{is_client}
use Rattle.sentry_sessions.specs.declared.session.record.Session.{Session}
use Rattle.sentry_plain.specs.Tables.{value_at, without}
use Rattle.sentry_plain.specs.Counts.{Counts, count_at, is_number}
use Rattle.sentry_state.specs.SessionTables.{counted_at, counted_client}
use Rattle.sentry_plain.proofs.CountLemmas.{counted_any}
use Rattle.sentry_plain.proofs.NumberLemmas.{same_number}

own_is : (b : Bool) (named n : ℕ) → is_number n (cond b (Some named) None) ≡ (b && (named == n))
own_is true named n = refl
own_is false named n = refl

client_is : (tag n : ℕ) (session : Session)
    → is_number n (counted_at (Some tag) session) ≡ is_client (record { tag = tag; number = n }) (Some session.start.client)
client_is tag n session = own_is (session.start.client.tag == tag) session.start.client.number n

counted_is : (b : Bool) (own key : ℕ) → cond b (Some own) None ≡ Some key → (b ≡ true) × (own ≡ key)
counted_is true own key is = let same : own ≡ key = cc in (refl, same)
counted_is false own key is = absurd cc

-- a count above 0 says that a session was started under the client
pub sessions_counted : (counted : Option ℕ) (sessions : List (ℕ × Session)) (counts : List (ℕ × ℕ))
    → Counts (counted_at counted) counts sessions → (client : ClientKey) (number : ℕ) → counted_client counted client ≡ Some number
    → nat_lt 0 (count_at counts number) ≡ list_any (λ entry. is_client client (Some entry.1.start.client)) sessions
sessions_counted None sessions counts true_counts client number is = absurd cc
sessions_counted (Some tag) sessions counts true_counts client number is =
    let own = counted_is (client.tag == tag) client.number number is in
    let key : record { tag = tag; number = number } ≡ client =
    λ i. record { tag = sym (same_number client.tag tag own.0) i; number = sym own.1 i } in
    counted_any (counted_at (Some tag)) number (λ session. is_client (record { tag = tag; number = number }) (Some session.start.client))
    (client_is tag number) sessions counts true_counts
    ∙ ap (λ (k : ClientKey). list_any (λ (entry : ℕ × Session). is_client k (Some entry.1.start.client)) sessions) key

left-at : {X : Type 0} (b : Bool) (e : ℕ × X) (es left : List (ℕ × X)) (o : Option X) → cond b (Some e.1) o ≡ None
    → (o ≡ None → left ≡ es) → cond b es (e ∷ left) ≡ e ∷ es
left-at true e es left o none rest = absurd cc
left-at false e es left o none rest = ap (λ l. e ∷ l) (rest none)

-- where nothing stands nothing goes
pub without_absent : {X : Type 0} (entries : List (ℕ × X)) (number : ℕ) → value_at entries number ≡ None
    → without entries number ≡ entries
without_absent [] number none = refl
without_absent (e ∷ es) number none =
    left-at (is_at (nat_cmp number) e.0) e es (without es number) (value_at es number) none (without_absent es number)

none_named : {X : Type 0} (entries : List (ℕ × X)) → sum_by (λ (x : X). 0) (values_of entries) ≡ 0
none_named [] = refl
none_named (e ∷ es) =
    let first = sum_by-cons (λ x. 0) e.1 (values_of es) in
    let rest = none_named es in
    omega arith

-- nothing is counted where no client's sessions are
pub none_counted : (sessions : List (ℕ × Session)) → Counts (counted_at None) [] sessions
none_counted sessions = record { each = λ n. sym (none_named sessions) }

-- the test of keys tells that they are the same
pub same_client : (a b : ClientKey) → ((a.tag == b.tag) && (a.number == b.number)) ≡ true → a ≡ b
same_client a b h =
    let each = and_parts (a.tag == b.tag) (a.number == b.number) h in
    λ i. record { tag = same_number a.tag b.tag each.0 i; number = same_number a.number b.number each.1 i }
