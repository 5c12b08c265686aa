-- What is made of a transaction before it is sent.
use Rattle.std.specs.Prelude.{◌≡◌, ◌≤◌, ◌+◌, ◌<◌, ℕ, Some, None, List, [], ◌∷◌, vec_len, vec_capacity}
use Rattle.std.specs.Option.{option_or}
use Rattle.sentry_base.specs.declared.protocol.envelope.Envelope.{Envelope}
use Rattle.sentry_base.specs.declared.protocol.envelope.EnvelopeItem.TheVariants as item
use Rattle.sentry_base.specs.declared.protocol.transaction.Transaction.{Transaction}
use Rattle.sentry_spans.specs.declared.prepared.Filling.{Filling}
use Rattle.sentry_spans.specs.declared.prepared.Prepared.{Prepared}

-- what says nothing
abbrev pub empty_filling : Filling
empty_filling = record {
  user = None;
  extra = [];
  tags = [];
  contexts = [];
  release = None;
  environment = None;
  sdk = None;
  server_name = None;
}

-- the transaction that finishes at a moment, with what it takes on
abbrev pub filled : Filling → ℕ → Transaction → Transaction
filled filling moment transaction = record transaction {
  timestamp = Some moment;
  user = option_or transaction.user filling.user;
  extra = filling.extra;
  tags = filling.tags;
  contexts = filling.contexts;
  release = filling.release;
  environment = filling.environment;
  sdk = filling.sdk;
  server_name = filling.server_name;
}

-- the envelope of the transaction that finishes at a moment
abbrev pub prepared_envelope : Prepared → ℕ → Transaction → Envelope
prepared_envelope prepared moment transaction = record {
  header = record { event_id = Some transaction.event_id; trace = Some prepared.trace };
  items = item.Transaction (filled prepared.filling moment transaction) ∷ [];
}

-- there is room for what is sent
pub record HasRoom (prepared : Prepared) : Type 0 where
  pub no_items : prepared.items.items ≡ []
  pub items : vec_len prepared.items + 2 ≤ vec_capacity prepared.items
  pub none_sent : prepared.sent.items ≡ []
  pub sent : vec_len prepared.sent < vec_capacity prepared.sent
