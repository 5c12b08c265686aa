-- What is lost with an envelope of a kind, and what words name.
use Rattle.std.specs.Prelude.{ℕ, List, Option, find}
use Rattle.std.specs.Str.{bytes_eq}
use Rattle.sentry_plain.specs.Texts.{Bytes}
use Rattle.sentry_base.specs.Losses.{loss_of, plus, categories, category_name, reasons, reason_name}
use Rattle.sentry_base.specs.declared.protocol.losses.Category.{Category}
use Rattle.sentry_base.specs.declared.protocol.losses.Category.TheVariants as category
use Rattle.sentry_base.specs.declared.protocol.losses.Reason.{Reason}
use Rattle.scenario_commands.specs.declared.losses.Kind.{Kind}
use Rattle.scenario_commands.specs.declared.losses.Kind.TheVariants as kind

abbrev pub losses_of_kind : Kind → Reason → List ℕ
losses_of_kind kind.Event reason = loss_of category.Error reason 1
losses_of_kind kind.Transaction reason =
    plus (loss_of category.Transaction reason 1) (loss_of category.Span reason 3)
losses_of_kind kind.Logs reason = loss_of category.LogItem reason 3
losses_of_kind kind.Attachment reason = loss_of category.Attachment reason 1
losses_of_kind kind.Session reason = loss_of category.Session reason 1

-- the category that a report names so
unfoldable pub category_of : Bytes → Option Category
category_of name = find (λ category. bytes_eq name (category_name category)) categories

-- the reason that a report names so
unfoldable pub reason_of : Bytes → Option Reason
reason_of name = find (λ reason. bytes_eq name (reason_name reason)) reasons
