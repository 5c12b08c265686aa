-- Where and how the envelopes of a DSN are posted.
use Rattle.std.specs.Prelude.{◌≡◌, ◌<◌, ℕ, List, length, Option, Some, None, Ok, OnOk, if◌then◌else◌}
use Rattle.sentry_plain.specs.Texts.{Bytes}
use Rattle.sentry_texts.specs.DsnParts.{DsnParts}
use Rattle.sentry_texts.specs.DsnTexts.{dsn_of_text, is_empty}
use Rattle.sentry_writers.specs.DsnUrls.{envelope_api_url, to_auth}
use Rattle.c_base.specs.Faults.{answer_of}
use Rattle.c_base.specs.Outboxes.{Copies}

-- the URL to which the envelopes of the DSN in a text are posted
abbrev pub ReadsUrl : Bytes → Bytes → Type 0
ReadsUrl text url = (dsn : DsnParts) × (dsn_of_text text ≡ Ok dsn) × (url ≡ envelope_api_url dsn)

-- how a client calls itself: not at all, where the text is empty
abbrev pub agent_of : Bytes → Option Bytes
agent_of text = if is_empty text then None else Some text

-- the header by which a client that calls itself so posts envelopes of the DSN in a text
abbrev pub ReadsAuth : Bytes → Bytes → Bytes → Type 0
ReadsAuth text agent auth = (dsn : DsnParts) × (dsn_of_text text ≡ Ok dsn) × (auth ≡ to_auth dsn (agent_of agent))

-- how long the text is, and the room with it, where it holds it
abbrev pub IsCopied : Bytes → List ℕ → List ℕ → ℕ → Type 0
IsCopied text old new long = (long ≡ length text) × Copies text old new

-- what is told is such a text
abbrev pub IsTold : (Bytes → Type 0) → List ℕ → List ℕ → ℕ → Type 0
IsTold Reads old new long = (text : Bytes) × Reads text × IsCopied text old new long

-- the same, where the answer is 0
abbrev pub IsAnswered : (Bytes → Type 0) → List ℕ → List ℕ → ℕ → ℕ → Type 0
IsAnswered Reads old new long number = (number < 12) × OnOk (answer_of number) (IsTold Reads old new long)
