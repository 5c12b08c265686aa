-- Which records the layers of hubs name, and how many layers name each.
use Rattle.std.specs.Prelude.{◌≡◌, ℕ, ◌+◌, ◌<◌, ◌≤◌, Option, None, Some, Bool, List, count_by, length, vec_capacity}
use Rattle.std.specs.List.{sum_by}
use Rattle.std.specs.Map.{values_of}
use Rattle.std.specs.Option.{is_some}
use Rattle.sentry_base.specs.declared.protocol.keys.ClientKey.{ClientKey}
use Rattle.sentry_base.specs.declared.protocol.keys.SessionKey.{SessionKey}
use Rattle.sentry_base.specs.declared.protocol.keys.TransactionOrSpanKey.{TransactionOrSpanKey}
use Rattle.sentry_base.specs.declared.protocol.keys.TransactionOrSpanKey.TheVariants.{Transaction, Span}
use Rattle.sentry_scope.specs.declared.scope.stack.Stack.{Stack}
use Rattle.sentry_scope.specs.declared.scope.stack.StackLayer.{StackLayer}
use Rattle.sentry_hub_table.specs.declared.hub.HubState.{HubState}
use Rattle.sentry_hub_table.specs.declared.names.LayerNames.{LayerNames}
use Rattle.sentry_hub_table.specs.declared.names.Names.{Names}
use Rattle.sentry_hub_table.specs.declared.tally.Key.{Key}
use Rattle.sentry_hub_table.specs.declared.tally.Tally.{Tally}
use Rattle.sentry_plain.specs.Counts.{one_if}
use Rattle.sentry_hub_table.specs.Tallies.{is_named, tally_at, tally_total, Raises, Lowers, Keeps}

abbrev pub client_name : Option ClientKey → Option Key
client_name None = None
client_name (Some key) = Some (record { tag = key.tag; number = key.number })

abbrev pub session_name : Option SessionKey → Option Key
session_name None = None
session_name (Some key) = Some (record { tag = key.tag; number = key.number })

abbrev pub transaction_name : Option TransactionOrSpanKey → Option Key
transaction_name None = None
transaction_name (Some (Transaction key)) = Some (record { tag = key.tag; number = key.number })
transaction_name (Some (Span key)) = None

abbrev pub span_name : Option TransactionOrSpanKey → Option Key
span_name None = None
span_name (Some (Transaction key)) = None
span_name (Some (Span key)) = Some (record { tag = key.tag; number = key.number })

module _ {P : Type 0} where
  -- what a layer names
  abbrev pub layer_names : StackLayer P → LayerNames
  layer_names layer = record {
    client = client_name layer.client;
    session = session_name layer.session;
    transaction = transaction_name layer.scope.span;
    span = span_name layer.scope.span;
  }

  -- the names of one kind
  abbrev pub client_of : StackLayer P → Option Key
  client_of layer = client_name layer.client

  abbrev pub session_of : StackLayer P → Option Key
  session_of layer = session_name layer.session

  abbrev pub transaction_of : StackLayer P → Option Key
  transaction_of layer = transaction_name layer.scope.span

  abbrev pub span_of : StackLayer P → Option Key
  span_of layer = span_name layer.scope.span

  -- how many layers of a stack pass a test
  abbrev pub layers_passing : (StackLayer P → Bool) → Stack P → ℕ
  layers_passing test stack = one_if (test stack.top) + count_by test stack.below

  -- how many layers a stack has
  abbrev pub height : Stack P → ℕ
  height stack = 1 + length stack.below

  -- the sum over all hubs
  abbrev pub over_hubs : (Stack P → ℕ) → List (ℕ × HubState P) → ℕ
  over_hubs weigh hubs = sum_by (λ hub. weigh hub.stack) (values_of hubs)

  -- how many layers of all hubs pass a test
  abbrev pub all_layers_passing : (StackLayer P → Bool) → List (ℕ × HubState P) → ℕ
  all_layers_passing test hubs = over_hubs (layers_passing test) hubs

  -- how many layers all hubs have
  abbrev pub all_layers : List (ℕ × HubState P) → ℕ
  all_layers hubs = over_hubs height hubs

  -- the tally has the number of layers that name each record, and room for a name of each layer
  pub record Counts (tally : Tally) (name : StackLayer P → Option Key) (hubs : List (ℕ × HubState P)) : Type 0 where
    pub each : (key : Key) → tally_at tally key ≡ all_layers_passing (λ layer. is_named key (name layer)) hubs
    pub total : tally_total tally ≡ all_layers_passing (λ layer. is_some (name layer)) hubs
    pub room : all_layers hubs ≤ vec_capacity tally.late

  -- the same of each kind of records
  pub record CountsNames (names : Names) (hubs : List (ℕ × HubState P)) : Type 0 where
    pub clients : Counts names.clients client_of hubs
    pub sessions : Counts names.sessions session_of hubs
    pub transactions : Counts names.transactions transaction_of hubs
    pub spans : Counts names.spans span_of hubs

  -- these layers name each record less
  pub record LowersBy (old new : Tally) (name : StackLayer P → Option Key) (layers : List (StackLayer P)) : Type 0 where
    pub each : (key : Key) → tally_at old key ≡ tally_at new key + count_by (λ layer. is_named key (name layer)) layers
    pub total : tally_total old ≡ tally_total new + count_by (λ layer. is_some (name layer)) layers
    pub room : vec_capacity new.late ≡ vec_capacity old.late

  -- each of these layers is counted
  abbrev pub HasLayers : Tally → (StackLayer P → Option Key) → List (StackLayer P) → Type 0
  HasLayers tally name layers =
      (key : Key) → count_by (λ layer. is_named key (name layer)) layers ≤ tally_at tally key

  pub record HasAllLayers (names : Names) (layers : List (StackLayer P)) : Type 0 where
    pub clients : HasLayers names.clients client_of layers
    pub sessions : HasLayers names.sessions session_of layers
    pub transactions : HasLayers names.transactions transaction_of layers
    pub spans : HasLayers names.spans span_of layers

  pub record LowersLayers (old new : Names) (layers : List (StackLayer P)) : Type 0 where
    pub clients : LowersBy old.clients new.clients client_of layers
    pub sessions : LowersBy old.sessions new.sessions session_of layers
    pub transactions : LowersBy old.transactions new.transactions transaction_of layers
    pub spans : LowersBy old.spans new.spans span_of layers

-- a layer that names this record is counted
abbrev pub HasName : Tally → Option Key → Type 0
HasName tally name = (key : Key) → name ≡ Some key → 0 < tally_at tally key

pub record HasNames (names : Names) (layer : LayerNames) : Type 0 where
  pub clients : HasName names.clients layer.client
  pub sessions : HasName names.sessions layer.session
  pub transactions : HasName names.transactions layer.transaction
  pub spans : HasName names.spans layer.span

-- there is room for one more name of each kind
pub record HasRoom (names : Names) : Type 0 where
  pub clients : tally_total names.clients < vec_capacity names.clients.late
  pub sessions : tally_total names.sessions < vec_capacity names.sessions.late
  pub transactions : tally_total names.transactions < vec_capacity names.transactions.late
  pub spans : tally_total names.spans < vec_capacity names.spans.late

pub record KeepsNames (old new : Names) : Type 0 where
  pub clients : Keeps old.clients new.clients
  pub sessions : Keeps old.sessions new.sessions
  pub transactions : Keeps old.transactions new.transactions
  pub spans : Keeps old.spans new.spans

-- there is room for the names of this many layers
pub record HasRoomFor (names : Names) (layers : ℕ) : Type 0 where
  pub clients : layers ≤ vec_capacity names.clients.late
  pub sessions : layers ≤ vec_capacity names.sessions.late
  pub transactions : layers ≤ vec_capacity names.transactions.late
  pub spans : layers ≤ vec_capacity names.spans.late

pub record RaisesNames (old new : Names) (layer : LayerNames) : Type 0 where
  pub clients : Raises old.clients new.clients layer.client
  pub sessions : Raises old.sessions new.sessions layer.session
  pub transactions : Raises old.transactions new.transactions layer.transaction
  pub spans : Raises old.spans new.spans layer.span

pub record LowersNames (old new : Names) (layer : LayerNames) : Type 0 where
  pub clients : Lowers old.clients new.clients layer.client
  pub sessions : Lowers old.sessions new.sessions layer.session
  pub transactions : Lowers old.transactions new.transactions layer.transaction
  pub spans : Lowers old.spans new.spans layer.span
