use Rattle.std.proofs.Common.{rules, ◌∷◌, [], ℤ, subst}
use mir.Syntax.{w64}
use mir.Val.{SFits}
use Rattle.std.proofs.lemmas.Int.{to_z-of_z}
use Rattle.std.specs.Fmt.{signed_decimal}
use Rattle.json.specs.Json.{number}
use Rattle.json.specs.Token.{Token}
use Rattle.sentry_framing.specs.Json.{Adds}
use Rattle.sentry_framing.proofs.Written.{adds, puts}
use Rattle.sentry_envelope.proofs.metrics.put_amount.Goals as goal

pub returns : goal.returns
returns c =
    let amount = c.args.metric.now.value in
    let fits : SFits w64 amount = search rules in
    puts (number (signed_decimal amount)) c.in_ok-key.ensures
    (subst (λ (z : ℤ). Adds c.key.new.self c.i64.new.self (Token.number (signed_decimal z) ∷ [])) (to_z-of_z w64 amount fits) (adds c.in_ok-i64.ensures))
