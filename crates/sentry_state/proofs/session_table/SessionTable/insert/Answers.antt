use Rattle.std.proofs.Common.{◌≡◌, ◌∙◌, ap, sym, subst, ℕ, List, None}
use Rattle.std.specs.Prelude.{Option}
use Rattle.sentry_plain.specs.Tables.{value_at}
use Rattle.sentry_sessions.specs.declared.session.record.Session.{Session}
use Rattle.sentry_plain.specs.Counts.{Counts, Raises}
use Rattle.sentry_state.specs.SessionTables.{counted_at}
use Rattle.sentry_plain.proofs.CountLemmas.{comes}
use Rattle.sentry_state.proofs.session_table.SessionTable.insert.Goals as goal

-- its client has one more
pub invariant_of-self-in_default : goal.invariant_of-self-in_default
invariant_of-self-in_default c =
    let table = c.self.inside in
    let none : value_at table.sessions c.args.number ≡ None =
    ap (λ (sessions : List (ℕ × Session)). value_at sessions c.args.number) c.self.view_is ∙ c.requires in
    let raises = subst (λ (name : Option ℕ). Raises table.counts c.raise.new.counts name) c.counted_client-client.ensures c.in_ok-raise.ensures.ok in
    record {
      counts = subst (λ (held : List (ℕ × Session)). Counts (counted_at table.counted) c.raise.new.counts held)
          (sym c.in_default.ensures.ok)
          (comes (counted_at table.counted) table.sessions c.args.number c.args.session none table.counts c.raise.new.counts
          c.self.invariant.counts raises);
    }
