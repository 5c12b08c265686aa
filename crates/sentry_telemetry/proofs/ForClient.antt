-- Envelopes that are addressed in several parts.
use Rattle.std.proofs.Common.{◌≡◌, refl, ap, ◌∙◌, List, [], ◌∷◌, ◌++◌}
use Rattle.std.specs.Prelude.{Option, None}
use Rattle.sentry_base.specs.declared.protocol.client_report.ClientReport.{ClientReport}
use Rattle.sentry_base.specs.declared.protocol.envelope.Envelope.{Envelope}
use Rattle.sentry_base.specs.declared.protocol.keys.ClientKey.{ClientKey}
use Rattle.sentry_base.specs.Envelopes.{with_report}
use Rattle.sentry_sending.specs.Sending.{for_client, report_left}

-- after the first envelope there is no report
for_client_none : (key : ClientKey) (some others : List Envelope) → for_client key None some ++ for_client key None others ≡ for_client key None (some ++ others)
for_client_none key [] others = refl
for_client_none key (first ∷ rest) others = ap (λ l. (key, first) ∷ l) (for_client_none key rest others)

-- envelopes, and then others with the report that is left
pub for_client_parts : (key : ClientKey) (report : Option ClientReport) (some others : List Envelope)
    → for_client key report some ++ for_client key (report_left report (for_client key report some)) others ≡ for_client key report (some ++ others)
for_client_parts key report [] others = refl
for_client_parts key report (first ∷ rest) others = ap (λ l. (key, with_report report first) ∷ l) (for_client_none key rest others)

-- the same of what was made of the first ones
pub for_client_more : (key : ClientKey) (pending report : Option ClientReport) (envelopes others : List Envelope) (sent items : List (ClientKey × Envelope))
    → items ≡ sent → sent ≡ for_client key pending envelopes → report ≡ report_left pending sent
    → items ++ for_client key report others ≡ for_client key pending (envelopes ++ others)
for_client_more key pending report envelopes others sent items same is left =
    (λ i. (same ∙ is) i ++ for_client key ((left ∙ ap (report_left pending) is) i) others) ∙ for_client_parts key pending envelopes others
