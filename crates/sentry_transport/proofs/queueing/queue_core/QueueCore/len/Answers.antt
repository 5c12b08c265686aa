use Rattle.std.proofs.Common.{◌≡◌, ◌∙◌, length, rules}
use Rattle.sentry_transport.proofs.RecordingLemmas.{same_count}
use Rattle.sentry_transport.proofs.queueing.queue_core.QueueCore.len.Goals as goal

pub returns : goal.returns
returns c = λ capacity recorder history stands.
    let count : c.len.result ≡ length c.args.self.now.envelopes = search rules in
    count ∙ same_count capacity recorder history c.args.self.now stands
