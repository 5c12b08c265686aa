use Rattle.std.proofs.Common.{◌≡◌, ◌+◌, ◌≤◌, Some, length, take, get_or, sym, ap, ◌∙◌, arith}
use Rattle.std.proofs.lemmas.List.{take_rest}
use Rattle.sentry_framing.specs.Json.{Bytes}
use Rattle.sentry_framing.proofs.Parts.{line_found, line_none}
use Rattle.sentry_framing.proofs.receiver.split_line.Goals as goal

pub returns-then-text-i-eq10-clause-parts : goal.returns-then-text-i-eq10-clause-parts
returns-then-text-i-eq10-clause-parts c =
    let text = c.args.text.now in
    let i = c.loop-i.i in
    let here : get_or text i 0 ≡ 10 = omega (arith, c.if-text-i-eq10.true) in
    ap (λ (rest : Bytes). Some (take i text, rest)) (take_rest text (i + 1))
    ∙ sym (line_found text i 0 c.loop-i-test.true c.loop-i.invariant here)

pub returns-clause-parts : goal.returns-clause-parts
returns-clause-parts c =
    let done : length c.args.text.now ≤ c.loop-i.i = omega (arith, c.loop-i-test.false) in
    sym (line_none c.args.text.now c.loop-i.i done c.loop-i.invariant)
