use Rattle.std.proofs.Common.{◌≡◌, List, subst, ◌∙◌, sym}
use Rattle.json.specs.Json.{no_members}
use Rattle.json.specs.Tree.{members_tokens}
use Rattle.sentry_base.specs.declared.protocol.log.LogAttribute.{LogAttribute}
use Rattle.sentry_framing.specs.Json.{Left}
use Rattle.sentry_framing.proofs.Written.{puts}
use Rattle.sentry_framing.proofs.Lists.{all_left, fewer}
use Rattle.sentry_plain.specs.Texts.{Bytes}
use Rattle.sentry_envelope.specs.Attributes.{attribute_json}
use Rattle.sentry_envelope.specs.Members.{put_entries}
use Rattle.sentry_envelope.proofs.attributes.write_attributes.Goals as goal

pub loop-key-init : goal.loop-key-init
loop-key-init c =
    let all = members_tokens (put_entries attribute_json c.args.attributes.now no_members) in
    let is : c.into_iter-key-iterator.result ≡ c.args.attributes.now =
    c.into_iter-key-iterator.ensures.into_iter_gives ∙ c.iter-key-items.ensures.rest in
    subst (λ (es : List (Bytes × LogAttribute)). Left c.begin_object.new.self c.begin_object.new.self (members_tokens (put_entries attribute_json es no_members)) all)
    (sym is) (all_left _ _)

pub loop-key-preserved : goal.loop-key-preserved
loop-key-preserved c =
    let all = members_tokens (put_entries attribute_json c.args.attributes.now no_members) in
    let here = subst (λ (es : List (Bytes × LogAttribute)). Left c.begin_object.new.self c.loop-key.out (members_tokens (put_entries attribute_json es no_members)) all)
    c.in-Some.ensures.steps c.loop-key.invariant in
    let put = puts (attribute_json c.in-Some.attribute.now) c.in_ok-key.ensures c.in_ok-write_attribute.ensures in
    fewer (put_entries attribute_json c.next.new.self no_members) here put
