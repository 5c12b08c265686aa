use Rattle.std.proofs.Common.{◌≡◌, ◌++◌, subst, sym}
use Rattle.sentry_plain.proofs.BodyLemmas.{same_body}
use Rattle.sentry_plain.proofs.PartLemmas.{same_zip}
use Rattle.sentry_plain.specs.Parts.{AllFilled, joined}
use Rattle.sentry_plain.proofs.text_map.entries.Body.copy.Goals as goal

pub returns : goal.returns
returns g c =
    let body = c.args.self.now in
    let others : c.in_ok-clone-2.field-0.items ≡ body.others.items = same_zip body.others.items c.in_ok-clone-2.field-0.items c.in_ok-clone-2.ensures.cases.0 in
    same_body body _ c.requires (λ i. c.in_ok-clone.ensures.cases i ++ joined (others i)) (subst AllFilled (sym others) c.requires.filled)
