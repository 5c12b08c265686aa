-- What a closure does to the data of a transaction or a span.
use Rattle.std.specs.Prelude.{◌≡◌, ◌⊎◌, Bool, false, [], Result, Ok, map}
use Rattle.std.specs.Fn.{Once}
use Rattle.sentry_base.specs.Callbacks.{Partial}
use Rattle.sentry_base.specs.declared.protocol.keys.TransactionOrSpanKey.{TransactionOrSpanKey}
use Rattle.sentry_calls.specs.declared.call.Call.TheVariants as group
use Rattle.sentry_hub.specs.declared.performance.data.Data.{Data}
use Rattle.sentry_lock.specs.Answers.{LockAnswers}
use Rattle.sentry_lock.specs.CallLists.{LockMakesEach}
use Rattle.sentry_options.specs.Meanings.{Meanings}
use Rattle.sentry_span_edits.specs.Reads as reads
use denote.Ref.{MutBor}

module _ {F A E P C : Type 0} (T : Type 0) (gives : P → Partial) (meanings : C → Meanings)
    (g : Once F (MutBor Data × Unit {0}) (Result A E × (MutBor Data × Unit {0}))) where
  -- the closure, lent a copy of what a core that the lock held had as data, without a call, gave this answer, and a core
  -- that the lock held made its calls; of what names nothing there is no data and no call
  pub record EditsData (edit : F) (named : Bool) (span : TransactionOrSpanKey) (answer : A) : Type 0 where
    pub lent : MutBor Data
    pub left : MutBor Data
    pub copied : ((named ≡ false) × (lent.now.copy ≡ [])) ⊎ LockAnswers P C T lent.now.copy (reads.read_data span)
    pub names : lent.now.span ≡ span
    pub begins : lent.now.calls ≡ []
    pub met : g.post edit (lent, tt) (Ok answer, (left, tt))
    pub made : (named ≡ false) ⊎ LockMakesEach T gives meanings (map group.Span left.now.calls)
