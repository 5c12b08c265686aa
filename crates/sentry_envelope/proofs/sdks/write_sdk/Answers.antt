use Rattle.std.proofs.Common.{List, ap, codes}
use Rattle.json.specs.Json.{string}
use Rattle.sentry_plain.specs.Texts.{Bytes}
use Rattle.sentry_base.specs.declared.protocol.sdk.ClientSdkPackage.{ClientSdkPackage}
use Rattle.sentry_envelope.specs.Members.{put_items}
use Rattle.sentry_envelope.specs.Sdks.{package_json}
use Rattle.sentry_envelope.proofs.Lists.{same_members}
use Rattle.sentry_framing.proofs.Written.{made, says, then}
use Rattle.sentry_envelope.proofs.sdks.write_sdk.Goals as goal

pub returns : goal.returns
returns c =
    made c.in_ok-begin_object.ensures
    (then (says c.in_ok-put_text.ensures c.as_str.ensures)
    (then (says c.in_ok-put_text-2.ensures c.as_str-2.ensures)
    (then (same_members c.in_ok-put_items.ensures (λ rest. ap (λ (xs : List Bytes). put_items string (codes "integrations") xs rest) c.as_slice.ensures))
    (same_members c.in_ok-put_items-2.ensures (λ rest. ap (λ (xs : List ClientSdkPackage). put_items package_json (codes "packages") xs rest) c.as_slice-2.ensures)))))
    c.in_ok-end_object.ensures
