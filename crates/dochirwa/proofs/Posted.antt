-- What is told of a DSN.
use Rattle.std.proofs.Common.{◌≡◌, ℕ, List}
use Rattle.std.specs.Prelude.{◌⊎◌, Ok, Result}
use Rattle.sentry_base.specs.declared.protocol.refusal.Refusal.{Refusal}
use Rattle.sentry_plain.specs.Texts.{Bytes}
use Rattle.sentry_texts.specs.DsnParts.{DsnParts}
use Rattle.sentry_texts.specs.DsnTexts.{dsn_of_text, GivesDsn, IsRefusedAsTooLong}
use Rattle.sentry_writers.specs.DsnUrls.{envelope_api_url, to_auth}
use Rattle.dochirwa.specs.Posting.{IsCopied, IsTold, ReadsAuth, ReadsUrl, agent_of}

pub reads_url : (text url : Bytes) (dsn : DsnParts) → dsn_of_text text ≡ Ok dsn → url ≡ envelope_api_url dsn → ReadsUrl text url
reads_url text url dsn read is = (dsn, read, is)

pub reads_auth : (text agent auth : Bytes) (dsn : DsnParts) → dsn_of_text text ≡ Ok dsn → auth ≡ to_auth dsn (agent_of agent)
    → ReadsAuth text agent auth
reads_auth text agent auth dsn read is = (dsn, read, is)

pub told : (Reads : Bytes → Type 0) (text : Bytes) (old new : List ℕ) (long : ℕ) → Reads text → IsCopied text old new long
    → IsTold Reads old new long
told Reads text old new long reads copied = (text, reads, copied)
