use Rattle.std.proofs.Common.{rules, ap, not, ◌∙◌}
use Rattle.std.proofs.lemmas.Fn.{filter_same}
use Rattle.sentry_transport.specs.Limits.{is_item_limited, other_items}
use Rattle.sentry_transport.specs.QueueHistories.{is_limited_by}
use Rattle.sentry_transport.proofs.queueing.removing.other_items.Goals as goal

pub returns : goal.returns
returns c =
    let limited = is_limited_by c.args.limits.now.until c.args.now in
    c.from_vec.ensures
    ∙ filter_same _ (λ item. not (is_item_limited limited item)) _ (λ x b f' k. search rules) _ _ c.retain.ensures.filtered
    ∙ ap (other_items limited) c.into_vec-items.ensures
