use Rattle.std.proofs.Common.{List, ap, codes}
use Rattle.json.specs.Json.{array, string}
use Rattle.sentry_base.specs.declared.protocol.breadcrumb.Breadcrumb.{Breadcrumb}
use Rattle.sentry_base.specs.declared.protocol.exception.Exception.{Exception}
use Rattle.sentry_framing.specs.Json.{items_of}
use Rattle.sentry_framing.proofs.Written.{then, made, says, puts, same_json}
use Rattle.sentry_envelope.specs.Breadcrumbs.{breadcrumb_json}
use Rattle.sentry_envelope.specs.Events.{put_list, put_exceptions}
use Rattle.sentry_envelope.proofs.Lists.{same_members}
use Rattle.sentry_envelope.proofs.events.write_event.Goals as goal

pub returns : goal.returns
returns c =
    let fingerprint =
    puts (array (items_of string c.args.event.now.fingerprint)) c.in_ok-key.ensures
    (same_json (array (items_of string c.as_slice.result.now)) c.in_ok-write_items.ensures
    (ap (λ texts. array (items_of string texts)) c.as_slice.ensures)) in
    let breadcrumbs = same_members c.in_ok-put_breadcrumbs.ensures
    (λ rest. ap (λ (xs : List Breadcrumb). put_list breadcrumb_json (codes "breadcrumbs") xs rest) c.as_slice-2.ensures) in
    let exceptions = same_members c.in_ok-put_exceptions.ensures
    (λ rest. ap (λ (xs : List Exception). put_exceptions c.args.stacktraces.now xs rest) c.as_slice-3.ensures) in
    made c.in_ok-begin_object.ensures
    (then c.in_ok-put_simple.ensures (then (says c.in_ok-put_text.ensures c.as_str.ensures)
    (then fingerprint (then c.in_ok-put_optional.ensures (then c.in_ok-put_optional-2.ensures
    (then (says c.in_ok-put_text-2.ensures c.as_str-2.ensures) (then c.in_ok-put_seconds.ensures
    (then c.in_ok-put_optional-3.ensures (then c.in_ok-put_optional-4.ensures
    (then c.in_ok-put_optional-5.ensures (then c.in_ok-put_user.ensures (then c.in_ok-put_request.ensures
    (then c.in_ok-put_text_map.ensures (then breadcrumbs (then exceptions (then c.in_ok-put_text_map-2.ensures
    (then c.in_ok-put_values.ensures c.in_ok-put_sdk.ensures)))))))))))))))))
    c.in_ok-end_object.ensures
