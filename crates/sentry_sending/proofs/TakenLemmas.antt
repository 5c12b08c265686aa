-- Envelopes of items, if there are any.
use Rattle.std.proofs.Common.{◌≡◌, refl, ap, sym, List, [], ◌∷◌, ◌++◌, length, Bool, true, false, arith, ◌==◌}
use Rattle.std.proofs.lemmas.Bool.Decides.{nat_tests}
use Rattle.std.specs.Prelude.{Option, None, ◌&&◌}
use Rattle.sentry_base.specs.Envelopes.{with_report}
use Rattle.sentry_base.specs.declared.protocol.client_report.ClientReport.{ClientReport}
use Rattle.sentry_base.specs.declared.protocol.envelope.Envelope.{Envelope}
use Rattle.sentry_base.specs.declared.protocol.envelope.EnvelopeItem.{EnvelopeItem}
use Rattle.sentry_base.specs.declared.protocol.keys.ClientKey.{ClientKey}
use Rattle.sentry_sessions.specs.SessionQueues.{envelope_if_any, envelope_of}
use Rattle.sentry_sending.specs.Sending.{for_client, envelopes_from}

-- without items there is no envelope
pub none_more : (key : ClientKey) (report : Option ClientReport) (items : List EnvelopeItem) (others : List Envelope) → (length items == 0) ≡ true
    → for_client key report (envelope_if_any items ++ others) ≡ for_client key report others
none_more key report [] others none = refl
none_more key report (first ∷ rest) others none = absurd (grind (arith, nat_tests))

-- with items there is one, which takes the report
pub one_more : (key : ClientKey) (report : Option ClientReport) (items : List EnvelopeItem) (others : List Envelope) → (length items == 0) ≡ false
    → for_client key report (envelope_if_any items ++ others) ≡ (key, with_report report (envelope_of items)) ∷ for_client key None others
one_more key report [] others some = absurd (grind (arith, nat_tests))
one_more key report (first ∷ rest) others some = refl

-- nothing leaves where the slot is empty, or the session is not the hundredth
pub unsent : (key : ClientKey) (occupied sends : Bool) (report : Option ClientReport) (envelopes : List Envelope) → (occupied && sends) ≡ false
    → (sends ≡ false → envelopes ≡ []) → [] ≡ envelopes_from occupied key report envelopes
unsent key true sends report envelopes h none = ap (for_client key report) (sym (none h))
unsent key false sends report envelopes h none = refl

-- what leaves an occupied slot
pub for_occupied : (key : ClientKey) (occupied : Bool) (report : Option ClientReport) (envelopes : List Envelope) → occupied ≡ true
    → for_client key report envelopes ≡ envelopes_from occupied key report envelopes
for_occupied key true report envelopes h = refl
for_occupied key false report envelopes h = absurd cc
