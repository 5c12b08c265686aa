-- What the definition of DSN texts gives for the DSN of the clients.
use Rattle.std.proofs.Common.{◌≡◌, refl, inl, inr, ◌⊎◌}
use Rattle.std.specs.Prelude.{Result, Ok, Err, IfOk}
use Rattle.std.specs.Result.{result_or}
use Rattle.url.proofs.OnLiterals.{url_on_literals}
use Rattle.sentry_texts.specs.DsnTexts.{dsn_of_text, GivesDsn, IsRefusedAsTooLong}
use Rattle.sentry_texts.specs.DsnParts.{DsnParts}
use Rattle.sentry_base.specs.declared.protocol.refusal.Refusal.{Refusal}
use Rattle.replay_run.specs.Calls.{client_dsn_text, client_dsn}

pub dsn_of_text-client : dsn_of_text client_dsn_text ≡ Ok client_dsn
unfolding url_on_literals
dsn_of_text-client = refl

-- a DSN that was read from the text is the clients' DSN
pub client_dsn-read : {E : Type 0} (r : Result DsnParts Refusal) (other : E)
    → (GivesDsn r (dsn_of_text client_dsn_text)) ⊎ (IsRefusedAsTooLong r client_dsn_text)
    → IfOk (result_or r (Err other)) (λ dsn. dsn ≡ client_dsn)
client_dsn-read (Ok dsn) other (inl given) = let text = dsn_of_text-client in cc
client_dsn-read (Ok dsn) other (inr long) = let refused = long.0 in cc
client_dsn-read (Err refusal) other given = tt
