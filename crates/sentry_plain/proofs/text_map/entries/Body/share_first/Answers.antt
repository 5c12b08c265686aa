use Rattle.std.proofs.Common.{◌≡◌, ◌∙◌, ◌++◌, ap, arith, length, subst, sym, ◌<◌}
use Rattle.sentry_plain.proofs.BodyLemmas.{same_body}
use Rattle.sentry_plain.specs.Parts.{AllFilled, joined}
use Rattle.sentry_plain.proofs.text_map.entries.Body.share_first.Goals as goal

pub returns : goal.returns
returns g c =
    let body = c.args.self.now in
    let whole : c.in_ok-whole.whole ≡ body.first = c.in_ok-whole.ensures ∙ c.in_ok-clone.ensures.cases in
    let some : 0 < length c.in_ok-whole.whole = omega (arith, ap length whole, c.len.ensures, c.if-len-lt-ALONE.false) in
    same_body body _ c.requires
    ((λ i. c.new-2.ensures i ++ joined (c.in_ok-insert.ensures.items i)) ∙ ap (λ p. p ++ joined body.others.items) whole)
    (subst AllFilled (sym c.in_ok-insert.ensures.items) (some, c.requires.filled))
