use Rattle.std.proofs.Common.{◌≡◌, Some, sym, ap, ◌∙◌}
use Rattle.json.specs.Json.{document}
use Rattle.json.specs.Value.{value_view}
use Rattle.sentry_framing.proofs.Received.{is_json}
use Rattle.sentry_framing.proofs.Parts.{not_utf8}
use Rattle.sentry_framing.proofs.receiver.read_json.Goals as goal

pub returns-in_default : goal.returns-in_default
returns-in_default c = not_utf8 c.args.text.now c.in_default.ensures.cases.0

pub returns-in-Ok-parse : goal.returns-in-Ok-parse
returns-in-Ok-parse c =
    let same = c.in-Ok.ensures.cases in
    let j = value_view c.in-Ok-parse.value in
    let read : document c.in-Ok.text.now ≡ Some j = c.in-Ok-parse.ensures.ok in
    (j, is_json c.args.text.now j same.1 (ap document (sym same.0) ∙ read), record { text = read; length = c.stated_length.ensures })
