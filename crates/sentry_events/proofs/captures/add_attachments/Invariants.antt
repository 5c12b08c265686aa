use Rattle.std.proofs.Common.{◌≡◌, drop}
use Rattle.sentry_events.specs.Captures.{with_attachments}
use Rattle.sentry_events.proofs.captures.add_attachments.Given as goal

-- the attachments that are left lead to the whole
abbrev pub invariant-loop-attachment : goal.invariant-loop-attachment
invariant-loop-attachment l =
    with_attachments (drop l.attachment-index l.attachments) l.envelope ≡ with_attachments l.attachments l.initial.envelope
