use Rattle.sentry_plain.specs.ValueView.{data_of}
use Rattle.sentry_envelope.specs.Attributes.{typed_value}
use Rattle.sentry_framing.proofs.Written.{made, puts, says, then}
use Rattle.sentry_envelope.proofs.attributes.write_attribute.Goals as goal

pub returns : goal.returns
returns c =
    made c.in_ok-begin_object.ensures
    (then (puts (typed_value (data_of c.args.attribute.now.0)) c.in_ok-key.ensures c.in_ok-write_typed_value.ensures)
    (says c.in_ok-put_text.ensures c.type_name.ensures))
    c.in_ok-end_object.ensures
