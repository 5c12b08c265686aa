use Rattle.std.proofs.Common.{sym, ap, ◌∙◌, [], ◌++◌, List, append-nil}
use Rattle.sentry_base.specs.declared.protocol.envelope.Envelope.{Envelope}
use Rattle.sentry_base.specs.declared.protocol.keys.ClientKey.{ClientKey}
use Rattle.sentry_sessions.specs.SessionQueues.{envelope_if_any}
use Rattle.sentry_sending.specs.Sending.{for_client}
use Rattle.sentry_sending.proofs.sending.send_taken.Goals as goal

-- the counts first, and then the other updates
pub returns : goal.returns
returns c =
    let key = c.args.key in
    let report = c.args.report in
    let counted = envelope_if_any c.args.taken.counted.items in
    let individual = envelope_if_any c.args.taken.individual.items in
    let first = c.push_if_any.ensures.items (individual ++ []) in
    let second = c.push_if_any-2.ensures.items [] in
    c.from_vec.ensures
    ∙ (sym (append-nil c.push_if_any-2.new.sent.items)
    ∙ (second
    ∙ (first
    ∙ (ap (λ (sent : List (ClientKey × Envelope)). sent ++ for_client key report (counted ++ (individual ++ []))) c.requires.empty
    ∙ ap (λ (envelopes : List Envelope). for_client key report (counted ++ envelopes)) (append-nil individual)))))
