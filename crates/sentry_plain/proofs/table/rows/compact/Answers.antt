use Rattle.std.proofs.Common.{◌≡◌, ◌∙◌, ap, rules}
use Rattle.std.proofs.lemmas.Fn.{filter_same}
use Rattle.std.specs.List.{filter}
use Rattle.std.specs.Option.{is_some}
use Rattle.sentry_plain.proofs.TableLemmas.{live-full, numbers-full}
use Rattle.sentry_plain.specs.Rows.{live_rows, numbers, value_of}
use Rattle.sentry_plain.proofs.table.rows.compact.Goals as goal

pub returns : goal.returns
returns g c =
    let kept : c.retain.new.self.items ≡ filter (λ r. is_some (value_of r)) c.args.rows.now.items =
    filter_same _ _ _ (λ x b f called. search rules) _ _ c.retain.ensures.filtered in record {
      live = ap live_rows kept ∙ live-full c.args.rows.now.items;
      numbers = ap numbers kept ∙ numbers-full c.args.rows.now.items;
    }
