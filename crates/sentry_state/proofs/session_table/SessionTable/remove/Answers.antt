use Rattle.std.proofs.Common.{◌≡◌, ◌∙◌, sym, subst, ℕ, List, Some, None}
use Rattle.std.specs.Prelude.{Option}
use Rattle.sentry_plain.specs.Tables.{value_at, without}
use Rattle.sentry_sessions.specs.declared.session.record.Session.{Session}
use Rattle.sentry_plain.specs.Counts.{Counts, Lowers}
use Rattle.sentry_state.specs.SessionTables.{counted_at}
use Rattle.sentry_plain.proofs.CountLemmas.{goes, is_there}
use Rattle.sentry_state.proofs.SessionCounts.{without_absent}
use Rattle.sentry_state.proofs.session_table.SessionTable.remove.Goals as goal

-- nothing stood there
pub returns-in_default : goal.returns-in_default
returns-in_default c =
    let table = c.self.inside in
    let none : value_at table.sessions c.args.number ≡ None = sym c.in_default.ensures in
    subst (λ (held : List (ℕ × Session)). held ≡ without held c.args.number) c.self.view_is
    (sym (without_absent table.sessions c.args.number none))

-- its client is counted
pub lower_entry-requires : goal.lower_entry-requires
lower_entry-requires c =
    let table = c.self.inside in
    let found : value_at table.sessions c.args.number ≡ Some c.in-Some.session.now = sym c.in-Some.ensures in
    λ number is.
    is_there (counted_at table.counted) table.sessions c.args.number c.in-Some.session.now found table.counts c.self.invariant.counts number
    (sym c.counted_client-client.ensures ∙ is)

-- and has one less
pub invariant_of-self : goal.invariant_of-self
invariant_of-self c =
    let table = c.self.inside in
    let found : value_at table.sessions c.args.number ≡ Some c.in-Some.session.now = sym c.in-Some.ensures in
    let lowers = subst (λ (name : Option ℕ). Lowers table.counts c.lower_entry.new.counts name) c.counted_client-client.ensures c.lower_entry.ensures in
    record {
      counts = subst (λ (held : List (ℕ × Session)). Counts (counted_at table.counted) c.lower_entry.new.counts held) (sym c.discard.ensures.rest)
          (goes (counted_at table.counted) table.sessions c.args.number c.in-Some.session.now found table.counts c.lower_entry.new.counts
          c.self.invariant.counts lowers);
    }
