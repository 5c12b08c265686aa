-- The JSON of SDKs.
use Rattle.std.specs.Prelude.{codes}
use Rattle.json.specs.Json.{Json, string, object, no_members, member}
use Rattle.sentry_base.specs.declared.protocol.sdk.ClientSdkInfo.{ClientSdkInfo}
use Rattle.sentry_base.specs.declared.protocol.sdk.ClientSdkPackage.{ClientSdkPackage}
use Rattle.sentry_envelope.specs.Members.{put_items}

abbrev pub package_json : ClientSdkPackage → Json
package_json item = object
    (member (codes "name") (string item.name)
    (member (codes "version") (string item.version)
    no_members))

abbrev pub sdk_json : ClientSdkInfo → Json
sdk_json sdk = object
    (member (codes "name") (string sdk.name)
    (member (codes "version") (string sdk.version)
    (put_items string (codes "integrations") sdk.integrations
    (put_items package_json (codes "packages") sdk.packages
    no_members))))
