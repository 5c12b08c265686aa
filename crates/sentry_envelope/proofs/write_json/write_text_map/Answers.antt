use Rattle.std.proofs.Common.{◌≡◌, List, subst, ◌∙◌, sym}
use Rattle.json.specs.Json.{no_members}
use Rattle.json.specs.Tree.{members_tokens}
use Rattle.sentry_framing.specs.Json.{Left}
use Rattle.sentry_framing.proofs.Written.{puts}
use Rattle.sentry_framing.proofs.Lists.{all_left, fewer}
use Rattle.sentry_plain.specs.Texts.{Bytes}
use Rattle.sentry_envelope.specs.Members.{put_entries}
use Rattle.sentry_envelope.proofs.write_json.write_text_map.Goals as goal

pub loop-key-init : goal.loop-key-init
loop-key-init g c =
    let json = g.T.WriteJson.json in
    let all = members_tokens (put_entries json c.args.map.now no_members) in
    let is : c.into_iter-key-iterator.result ≡ c.args.map.now =
    c.into_iter-key-iterator.ensures.into_iter_gives ∙ c.iter-key-items.ensures.rest in
    subst (λ (es : List (Bytes × g.row.T.Denot)). Left c.begin_object.new.self c.begin_object.new.self (members_tokens (put_entries json es no_members)) all)
    (sym is) (all_left _ _)

pub loop-key-preserved : goal.loop-key-preserved
loop-key-preserved g c =
    let json = g.T.WriteJson.json in
    let all = members_tokens (put_entries json c.args.map.now no_members) in
    let here = subst (λ (es : List (Bytes × g.row.T.Denot)). Left c.begin_object.new.self c.loop-key.out (members_tokens (put_entries json es no_members)) all)
    c.in-Some.ensures.steps c.loop-key.invariant in
    let put = puts (json c.in-Some.value.now) c.in_ok-key.ensures c.in_ok-write.ensures in
    fewer (put_entries json c.next.new.self no_members) here put
