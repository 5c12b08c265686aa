use Rattle.std.proofs.Common.{◌≡◌, ◌∙◌, ap, sym, subst, ℕ, List, Some, None}
use Rattle.sentry_plain.specs.Tables.{value_at, replace_at}
use Rattle.sentry_sessions.specs.declared.session.record.Session.{Session}
use Rattle.sentry_plain.specs.Counts.{Counts}
use Rattle.sentry_state.specs.SessionTables.{counted_at, counted_client}
use Rattle.sentry_plain.proofs.CountLemmas.{stays}
use Rattle.sentry_state.proofs.Keeping.{replace_absent}
use Rattle.sentry_state.proofs.SessionCounts.{none_counted, same_client}
use Rattle.sentry_state.proofs.session_table.SessionTable.set.Goals as goal

-- nothing stands there
pub returns-in_default : goal.returns-in_default
returns-in_default c =
    sym (replace_absent c.self.inside.sessions c.args.number c.args.after (sym c.in_default.ensures.value))
    ∙ ap (λ (sessions : List (ℕ × Session)). replace_at sessions c.args.number c.args.after) c.self.view_is

-- its client stays
pub invariant_of-self-then-eq : goal.invariant_of-self-then-eq
invariant_of-self-then-eq c =
    let table = c.self.inside in
    let session = c.in-Some.session.now in
    let found : value_at table.sessions c.args.number ≡ Some session = sym c.in-Some.ensures.value in
    let same : session.start.client ≡ c.args.after.start.client =
    same_client session.start.client c.args.after.start.client (sym c.eq.ensures ∙ c.if-eq.true) in
    record {
      counts = stays (counted_at table.counted) table.sessions c.args.number session c.args.after found
          (ap (counted_client table.counted) (sym same)) table.counts c.self.invariant.counts;
    }

-- from now on none is counted
pub invariant_of-self-2 : goal.invariant_of-self-2
invariant_of-self-2 c = record {
  counts = subst (λ (counts : List (ℕ × ℕ)). Counts (counted_at None) counts (replace_at c.self.inside.sessions c.args.number c.args.after))
      (sym c.new.ensures) (none_counted (replace_at c.self.inside.sessions c.args.number c.args.after));
}
