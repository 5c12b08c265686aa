use Rattle.std.proofs.Common.{ap, ◌∙◌}
use Rattle.std.specs.String.{string_bytes}
use Rattle.sentry_plain.proofs.TextLemmas.{by_bytes-insert}
use Rattle.sentry_plain.specs.Texts.{put, by_bytes}
use Rattle.sentry_plain.specs.ValueView.{data_of}
use Rattle.sentry_plain.proofs.value.ValueMap.put.Goals as goal

pub returns-clause-ok : goal.returns-clause-ok
returns-clause-ok c =
    ap (by_bytes data_of) c.in_ok-insert.ensures.entries
    ∙ by_bytes-insert data_of c.self.inside.entries.entries c.args.key c.args.value
    ∙ ap (λ m. put m (string_bytes c.args.key) (data_of c.args.value)) c.self.view_is
