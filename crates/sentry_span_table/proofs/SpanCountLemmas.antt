-- How many spans belong to a transaction, and how many transactions a client will send.
use Rattle.std.proofs.Common.{◌≡◌, refl, ap, ◌∙◌, sym, ℕ, List, Bool, true, false, cond}
use Rattle.std.specs.Prelude.{Option, Some, None, ◌==◌, ◌&&◌, nat_lt}
use Rattle.std.specs.List.{list_any}
use Rattle.std.specs.Option.{is_some, option_map}
use Rattle.sentry_base.specs.declared.protocol.keys.ClientKey.{ClientKey}
use Rattle.sentry_base.specs.declared.protocol.keys.TransactionKey.{TransactionKey}
use Rattle.sentry_plain.specs.Counts.{Counts, count_at, is_number}
use Rattle.sentry_span_table.specs.SpanTables.{is_same_transaction, is_sent_by}
use Rattle.sentry_span_table.specs.TrueCounts.{own_number, transaction_of, client_of, sender_of}
use Rattle.sentry_span_table.specs.declared.table.records.SpanRecord.{SpanRecord}
use Rattle.sentry_span_table.specs.declared.table.records.TransactionRecord.{TransactionRecord}
use Rattle.sentry_span_table.specs.declared.table.records.Unfinished.{Unfinished}
use Rattle.sentry_plain.proofs.CountLemmas.{counted_any}

own_is : (b : Bool) (named n : ℕ) → is_number n (cond b (Some named) None) ≡ (b && (named == n))
own_is true named n = refl
own_is false named n = refl

span_is : (tag n : ℕ) (held : SpanRecord)
    → is_number n (transaction_of tag held) ≡ is_same_transaction (record { tag = tag; number = n }) held.transaction
span_is tag n held = own_is (held.transaction.tag == tag) held.transaction.number n

client_is : (tag n : ℕ) (unfinished : Option Unfinished)
    → is_number n (client_of tag unfinished) ≡ is_sent_by (record { tag = tag; number = n }) unfinished
client_is tag n None = refl
client_is tag n (Some unfinished) = own_is (unfinished.client.tag == tag) unfinished.client.number n

-- what is there is a value
pub some_value : {X : Type 0} (o : Option X) → is_some o ≡ true → (x : X) × (o ≡ Some x)
some_value None h = absurd cc
some_value (Some x) h = (x, refl)

-- what is unfinished keeps its client
pub same_client : (change : Unfinished → Unfinished) → ((unfinished : Unfinished) → (change unfinished).client ≡ unfinished.client)
    → (tag : ℕ) (unfinished : Option Unfinished) → client_of tag (option_map change unfinished) ≡ client_of tag unfinished
same_client change same tag None = refl
same_client change same tag (Some unfinished) = ap (λ (client : ClientKey). own_number tag client.tag client.number) (same unfinished)

-- a count above 0 says that a span belongs to the transaction
pub spans_counted : (tag : ℕ) (spans : List (ℕ × SpanRecord)) (counts : List (ℕ × ℕ)) → Counts (transaction_of tag) counts spans
    → (key : TransactionKey) → key.tag ≡ tag
    → nat_lt 0 (count_at counts key.number) ≡ list_any (λ entry. is_same_transaction key entry.1.transaction) spans
spans_counted tag spans counts true_counts key own =
    counted_any (transaction_of tag) key.number (λ held. is_same_transaction (record { tag = tag; number = key.number }) held.transaction)
    (span_is tag key.number) spans counts true_counts
    ∙ ap (λ (t : ℕ). list_any (λ (entry : ℕ × SpanRecord). is_same_transaction (record { tag = t; number = key.number }) entry.1.transaction) spans)
    (sym own)

-- a count above 0 says that the client will send a transaction
pub senders_counted : (tag : ℕ) (transactions : List (ℕ × TransactionRecord)) (counts : List (ℕ × ℕ))
    → Counts (sender_of tag) counts transactions → (key : ClientKey) → key.tag ≡ tag
    → nat_lt 0 (count_at counts key.number) ≡ list_any (λ entry. is_sent_by key entry.1.unfinished) transactions
senders_counted tag transactions counts true_counts key own =
    counted_any (sender_of tag) key.number (λ held. is_sent_by (record { tag = tag; number = key.number }) held.unfinished)
    (λ held. client_is tag key.number held.unfinished) transactions counts true_counts
    ∙ ap (λ (t : ℕ). list_any (λ (entry : ℕ × TransactionRecord). is_sent_by (record { tag = t; number = key.number }) entry.1.unfinished) transactions)
    (sym own)
