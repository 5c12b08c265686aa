use Rattle.sentry_framing.proofs.Written.{then, made, says}
use Rattle.sentry_envelope.proofs.breadcrumbs.BreadcrumbWriteJson.write.Goals as goal

pub returns : goal.returns
returns c =
    made c.in_ok-begin_object.ensures
    (then c.in_ok-put_seconds.ensures (then (says c.in_ok-put_text.ensures c.as_str.ensures) (then c.in_ok-put_optional.ensures
    (then (says c.in_ok-put_text-2.ensures c.as_str-2.ensures) (then c.in_ok-put_optional-2.ensures c.in_ok-put_values.ensures)))))
    c.in_ok-end_object.ensures
