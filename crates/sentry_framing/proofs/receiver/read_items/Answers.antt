use Rattle.std.proofs.Common.{rules, ◌≡◌, ◌<◌, List, Option, Some, option_map, length, subst, sym}
use Rattle.json.specs.Json.{Json}
use Rattle.sentry_framing.specs.Json.{Bytes}
use Rattle.sentry_framing.specs.Receiver.{read_item}
use Rattle.sentry_framing.specs.Raw.{raw_item, known_read}
use Rattle.sentry_framing.specs.declared.raw.RawItem.{RawItem}
use Rattle.sentry_framing.proofs.Parts.{Taken, taken_more}
use Rattle.sentry_framing.proofs.receiver.read_items.Goals as goal

pub loop-rest-preserved : goal.loop-rest-preserved
loop-rest-preserved c =
    let shorter : length c.in-Some.left.now < length c.loop-rest.rest.now = search rules in
    let read : ◌≡◌ {A = Option ((Option Json × Bytes) × Bytes)} (Some (raw_item c.in-Some.item, c.in-Some.left.now)) (option_map known_read (read_item c.loop-rest.rest.now)) = search rules in
    subst (λ (raw : List RawItem). Taken c.args.text.now c.in-Some.left.now raw) (sym c.in_ok-push.ensures.items)
    (taken_more c.args.text.now c.loop-rest.rest.now c.in-Some.left.now c.loop-rest.items.items c.in-Some.item c.loop-rest.invariant shorter read)
