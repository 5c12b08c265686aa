use Rattle.sentry_framing.proofs.Written.{then, made, says}
use Rattle.sentry_envelope.proofs.reports.ClientReportItemWriteJson.write.Goals as goal

pub returns : goal.returns
returns c =
    made c.in_ok-begin_object.ensures
    (then (says c.in_ok-put_text.ensures c.as_str.ensures) (then (says c.in_ok-put_text-2.ensures c.as_str-2.ensures) c.in_ok-put_whole.ensures))
    c.in_ok-end_object.ensures
