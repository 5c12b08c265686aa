-- What holds whenever the lock is free.
use Rattle.std.specs.Prelude.{◌≡◌, ◌<◌, ◌≤◌, ◌⊎◌, ◌-◌, ◌^◌, ℕ, Bool, true, false, List, [], ◌∷◌, Option, Some, None, Ok, Result, length, max}
use Rattle.sentry_plain.specs.Tables.{value_at, entries_after, without}
use Rattle.sentry_base.specs.declared.protocol.envelope.Envelope.{Envelope}
use Rattle.sentry_base.specs.declared.protocol.keys.ClientKey.{ClientKey}
use Rattle.sentry_base.specs.declared.protocol.keys.Label.{Label}
use Rattle.sentry_base.specs.declared.protocol.refusal.Refusal.{Refusal}
use Rattle.sentry_client_reports.specs.LossBooks.{Book, IsBalanced}
use Rattle.sentry_client_reports.specs.LossCounts.{CountedPart}
use Rattle.sentry_engine.specs.declared.engine.facts.Held.{Held}
use Rattle.sentry_hub_table.specs.Names.{all_layers}
use Rattle.sentry_options.specs.declared.clientoptions.plain.PlainOptions.{PlainOptions}
use Rattle.sentry_sessions.specs.declared.session.aggregates.TheConstants.{MAX_INDIVIDUAL}
use Rattle.sentry_span_table.specs.declared.table.records.TransactionRecord.{TransactionRecord}
use Rattle.sentry_state.specs.declared.state.ClientState.{ClientState}
use Rattle.sentry_state.specs.declared.state.Out.{Out}
use Rattle.sentry_state.specs.declared.state.Queues.{Queues}
use Rattle.sentry_state.specs.declared.state.State.{State}
use Rattle.sentry_state.specs.Books.{has_book}
use Rattle.sentry_state.specs.Outcomes.{Outcome, Does, DoesWithoutMemory}
use Rattle.sentry_state.specs.Worlds.{World, Stands}
use Rattle.sentry_calls.specs.Losses.{absorb}
use Rattle.sentry_calls.specs.declared.call.Call.{Call}
use Rattle.sentry_laws.proofs.Increasing.{IsIncreasing}
use Rattle.sentry_lock.specs.ValueCalls.{dropped_label}
use Rattle.sentry_lock.specs.Words.{Drainers, HasNoOpenWords, DrainsOne, EndsWords}

-- fewer logs, metrics and individual sessions wait in the queues of a client than are sent at once
pub record AreShort (options : PlainOptions) (queues : Queues) : Type 0 where
  pub logs : length queues.logs.items < max options.max_batch_items 1
  pub metrics : length queues.metrics.items < max options.max_batch_items 1
  pub sessions : length queues.sessions.individual < MAX_INDIVIDUAL

-- an open drainer has taken what the book of its label absorbed
abbrev pub AreTied : List (ℕ × Book) → Drainers → Type 0
AreTied books drainers =
    (n : ℕ) (drainer : CountedPart) (book : Book) → value_at drainers n ≡ Some (Some drainer)
    → value_at books n ≡ Some book → book.absorbed ≡ drainer.taken

-- the engine stands for a world; the queues of each client are short; each transaction keeps no more spans than its
-- limit; each book balances; and each open drainer is tied to its book
pub record IsSound {P C : Type 0} (engine : State P C) (drainers : Drainers) : Type 0 where
  pub world : World P C
  pub stands : Stands engine world
  pub sorted : IsIncreasing 0 world.books
  pub short : (n : ℕ) (client : ClientState C) → value_at engine.clients n ≡ Some client
      → AreShort client.options.plain client.queues
  pub kept : (n : ℕ) (transaction : TransactionRecord) → value_at engine.spans.transactions n ≡ Some transaction
      → length transaction.spans ≤ transaction.max_spans
  pub balanced : (n : ℕ) (book : Book) → value_at engine.books n ≡ Some book → IsBalanced book
  pub tied : AreTied engine.books drainers

module _ {P C : Type 0} where
  -- these are the numbers of what the engine holds
  abbrev pub IsCountOf : State P C → Held → Type 0
  IsCountOf engine held =
      (held.clients ≡ length engine.clients) × (held.hubs ≡ length engine.hubs)
      × (held.layers ≡ all_layers engine.hubs) × (held.transactions ≡ length engine.spans.transactions)
      × (held.spans ≡ length engine.spans.spans) × (held.sessions ≡ length engine.sessions)

  -- no number is left for a client
  abbrev pub HasNoNumber : State P C → Type 0
  HasNoNumber engine = (world : World P C) → Stands engine world → world.next.client ≡ 2 ^ 64 - 1

  -- whether a client that is held names the label
  abbrev pub IsHeld : Bool → Label → State P C → Type 0
  IsHeld held label engine = (world : World P C) → Stands engine world → has_book world label ≡ held

  -- the book of the label absorbed these quantities
  abbrev pub Absorbs : Label → List ℕ → State P C → State P C → Type 0
  Absorbs label quantities old new =
      (out : Out (Unit {0})) × DoesWithoutMemory old new (Ok out) (absorb label quantities)

  -- the words of the label were drained once, and its book absorbed what they gave
  abbrev pub DrainsAndAbsorbs : Label → List ℕ → State P C → State P C → Drainers → Drainers → Type 0
  DrainsAndAbsorbs label quantities old new drainers drained =
      DrainsOne drainers drained label.number quantities × Absorbs label quantities old new

  -- the words of the label were ended, and its book absorbed what stood in them
  abbrev pub EndsAndAbsorbs : Label → State P C → State P C → Drainers → Drainers → Type 0
  EndsAndAbsorbs label old new drainers ended =
      (quantities : List ℕ) × EndsWords drainers ended label.number quantities × Absorbs label quantities old new

  -- nothing changed, and no words of the label are open
  abbrev pub FindsNoWords : Label → State P C → State P C → Drainers → Drainers → Type 0
  FindsNoWords label old new drainers after =
      HasNoOpenWords drainers label.number × (new ≡ old) × (after ≡ drainers)

  -- the label was drained once and its book absorbed that; or no client names it, or it has no open words, and nothing
  -- changed
  abbrev pub DrainsIfOpen : Label → State P C → State P C → Drainers → Drainers → Type 0
  DrainsIfOpen label old new drainers drained =
      (IsHeld true label old × ((quantities : List ℕ) × DrainsAndAbsorbs label quantities old new drainers drained))
      ⊎ ((IsHeld false label old ⊎ HasNoOpenWords drainers label.number) × (new ≡ old) × (drained ≡ drainers))

  -- the same of the label of each of these numbers, one after the other
  abbrev pub DrainsEach : ℕ → List (ℕ × Option CountedPart) → State P C → State P C → Drainers → Drainers → Type 0
  DrainsEach tag [] old new drainers drained = (new ≡ old) × (drained ≡ drainers)
  DrainsEach tag (entry ∷ entries) old new drainers drained =
      (between : State P C) × (left : Drainers)
      × DrainsIfOpen (record { tag = tag; number = entry.0 }) old between drainers left
      × DrainsEach tag entries between new left drained

  -- all labels were drained
  unfoldable pub DrainsAll : ℕ → State P C → State P C → Drainers → Drainers → Type 0
  DrainsAll tag old new drainers drained = DrainsEach tag drainers old new drainers drained

  -- all labels were drained, or none
  abbrev pub DrainsFor : Bool → ℕ → State P C → State P C → Drainers → Drainers → Type 0
  DrainsFor true tag old new drainers drained = DrainsAll tag old new drainers drained
  DrainsFor false tag old new drainers drained = (new ≡ old) × (drained ≡ drainers)

  -- all labels were drained, and then the call did what its definition says
  abbrev pub DrainsAndDoes : {T : Type 0} → ℕ → State P C → State P C → Drainers → Drainers → Result (Out T) Refusal
      → (World P C → Outcome P C T) → Type 0
  DrainsAndDoes tag old new drainers drained answer outcome =
      (between : State P C) × DrainsAll tag old between drainers drained × Does between new answer outcome

  -- the call did what its definition says, and this is its reply
  abbrev pub Replies : {T : Type 0} → State P C → State P C → T → (World P C → Outcome P C T) → Type 0
  Replies old new reply outcome =
      (sent : List (ClientKey × Envelope)) × Does old new (Ok (record { reply = reply; sent = sent })) outcome

  -- the same of a call that takes no memory
  abbrev pub RepliesWithoutMemory : {T : Type 0} → State P C → State P C → T → (World P C → Outcome P C T) → Type 0
  RepliesWithoutMemory old new reply outcome =
      (sent : List (ClientKey × Envelope))
      × DoesWithoutMemory old new (Ok (record { reply = reply; sent = sent })) outcome

  -- the drainer of a label, if one is given, is forgotten unless a client names the label
  abbrev pub ForgetsUnused : Option Label → State P C → Drainers → Drainers → Type 0
  ForgetsUnused None engine drainers after = after ≡ drainers
  ForgetsUnused (Some label) engine drainers after =
      (IsHeld true label engine × (after ≡ drainers))
      ⊎ (IsHeld false label engine × (after ≡ without drainers label.number))

  -- the same of the label of the client that a call drops
  abbrev pub ForgetsDropped : Call P C → State P C → State P C → Drainers → Drainers → Type 0
  ForgetsDropped call old new drainers after =
      (label : Option Label) × ((world : World P C) → Stands old world → label ≡ dropped_label call world)
      × ForgetsUnused label new drainers after

-- the label of the next number was drained, if it is open; above it there is the rest
pub record DrainsNext {P C : Type 0} (tag : ℕ) (last : Option ℕ) (number : ℕ) (old new : State P C)
    (drainers drained : Drainers) : Type 0 where
  pub slot : Option CountedPart
  pub next : entries_after last drainers ≡ (number, slot) ∷ entries_after (Some number) drained
  pub drains : DrainsIfOpen (record { tag = tag; number = number }) old new drainers drained
