-- Names of files in order.
use Rattle.std.proofs.Common.{◌≡◌, ◌≢◌, refl, sym, ap, ◌∙◌, subst, ℕ, zero, suc, ◌+◌, ◌*◌, ◌/◌, ◌%◌, ◌^◌, ◌<◌, ◌≤◌, [], ◌∷◌, ◌++◌, length, append_assoc, ⊎_elim, lit<, lit≤, arith, lt_of_lt_of_le, pow-suc, div-lt_iff_lt-mul, div-add-mod', mod-lt}
use Rattle.std.proofs.Common.{length-append}
use Rattle.std.proofs.lemmas.Bool.Decides.{leb_tells}
use Rattle.std.specs.Prelude.{codes}
use Rattle.sentry_plain.specs.Texts.{Bytes}
use Rattle.sentry_writers.specs.declared.stamps.Stamp.{Stamp}
use Rattle.sentry_writers.specs.NameOrder.{Precedes}
use Rattle.sentry_writers.specs.Stamps.{digits, stamp_text, file_name, partial_name}

-- whatever follows, and behind whatever stands before both
followed : (first second : Bytes) → Precedes first second → (more others : Bytes) → Precedes (first ++ more) (second ++ others)
followed first second p more others = (
  p.0,
  p.1,
  p.2,
  p.3 ++ more,
  p.4 ++ others,
  ap (λ (t : Bytes). t ++ more) p.5 ∙ append_assoc p.0 (p.1 ∷ p.3) more,
  ap (λ (t : Bytes). t ++ others) p.6 ∙ append_assoc p.0 (p.2 ∷ p.4) others,
  p.7,
)

behind : (front first second : Bytes) → Precedes first second → Precedes (front ++ first) (front ++ second)
behind front first second p = (
  front ++ p.0,
  p.1,
  p.2,
  p.3,
  p.4,
  ap (λ (t : Bytes). front ++ t) p.5 ∙ sym (append_assoc front p.0 (p.1 ∷ p.3)),
  ap (λ (t : Bytes). front ++ t) p.6 ∙ sym (append_assoc front p.0 (p.2 ∷ p.4)),
  p.7,
)

-- the same front, and then the lesser digit
last_digit : (front other : Bytes) (a b : ℕ) → other ≡ front → a < b → Precedes (front ++ a ∷ []) (other ++ b ∷ [])
last_digit front other a b e h = (front, a, b, [], [], refl, ap (λ (t : Bytes). t ++ b ∷ []) e, h)

tenth : (width n : ℕ) → n < 10 ^ suc width → n / 10 < 10 ^ width
tenth width n h = (div-lt_iff_lt-mul {k = 10} {x = n} {y = 10 ^ width} (lit< tt)).1 (subst (λ p. n < p) (pow-suc 10 width) h)

split : (n : ℕ) → n / 10 * 10 + n % 10 ≡ n
split n = div-add-mod' n 10

low : (n : ℕ) → n % 10 < 10
low n = mod-lt n (lit< tt)

pub digits_in_order : (width m n : ℕ) → m < n → n < 10 ^ width → Precedes (digits width m) (digits width n)
unfolding digits
digits_in_order zero m n h bound = absurd (omega arith)
digits_in_order (suc width) m n h bound =
    let sm = split m in
    let sn = split n in
    let lm = low m in
    let ln = low n in
    ⊎_elim
    (λ t. let e : m / 10 ≡ n / 10 = omega arith in
    last_digit (digits width (m / 10)) (digits width (n / 10)) (48 + m % 10) (48 + n % 10) (ap (digits width) (sym e)) (omega arith))
    (λ t. followed (digits width (m / 10)) (digits width (n / 10)) (digits_in_order width (m / 10) (n / 10) t.1 (tenth width n bound))
    ((48 + m % 10) ∷ []) ((48 + n % 10) ∷ []))
    (leb_tells (n / 10) (m / 10))

short : (n : ℕ) → n < 2 ^ 64 → n < 10 ^ 20
short n h = lt_of_lt_of_le h (lit≤ tt)

pub names_in_order : (a b : Stamp) → a.moment ≤ b.moment → a.count < b.count → b.moment < 2 ^ 64 → b.count < 2 ^ 64 → Precedes (file_name a) (file_name b)
names_in_order a b moments counts bm bc =
    followed (stamp_text a) (stamp_text b)
    (⊎_elim
    (λ t. let e : digits 20 b.moment ≡ digits 20 a.moment = ap (digits 20) (omega arith) in
    subst (λ (front : Bytes). Precedes (stamp_text a) (front ++ 45 ∷ digits 20 b.count)) (sym e)
    (behind (digits 20 a.moment) (45 ∷ digits 20 a.count) (45 ∷ digits 20 b.count)
    (behind (45 ∷ []) (digits 20 a.count) (digits 20 b.count) (digits_in_order 20 a.count b.count counts (short b.count bc)))))
    (λ t. followed (digits 20 a.moment) (digits 20 b.moment) (digits_in_order 20 a.moment b.moment t.1 (short b.moment bm))
    (45 ∷ digits 20 a.count) (45 ∷ digits 20 b.count))
    (leb_tells b.moment a.moment))
    (codes ".envelope") (codes ".envelope")

same_length : (first second : Bytes) → first ≡ second → length first ≡ length second
same_length first second e = ap length e

-- a file never has the name that it had while it was written
pub names_differ : (stamp : Stamp) → file_name stamp ≢ partial_name stamp
names_differ stamp e =
    let same = same_length (file_name stamp) (partial_name stamp) e in
    let long = length-append (stamp_text stamp) (codes ".envelope") in
    let short = length-append (stamp_text stamp) (codes ".part") in
    let nine : length (codes ".envelope") ≡ 9 = refl in
    let five : length (codes ".part") ≡ 5 = refl in absurd (omega arith)
