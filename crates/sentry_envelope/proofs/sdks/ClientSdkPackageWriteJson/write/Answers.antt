use Rattle.sentry_framing.proofs.Written.{made, says, then}
use Rattle.sentry_envelope.proofs.sdks.ClientSdkPackageWriteJson.write.Goals as goal

pub returns : goal.returns
returns c =
    made c.in_ok-begin_object.ensures
    (then (says c.in_ok-put_text.ensures c.as_str.ensures) (says c.in_ok-put_text-2.ensures c.as_str-2.ensures))
    c.in_ok-end_object.ensures
