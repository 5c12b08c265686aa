use Rattle.std.proofs.Common.{◌∙◌, ◌+◌, Some, ap}
use Rattle.sentry_plain.specs.Tables.{replace_at}
use Rattle.sentry_hub_table.specs.Hubs.{with_session}
use Rattle.sentry_state.specs.declared.state.NextNumbers.{NextNumbers}
use Rattle.sentry_state.proofs.state.State.name_next_session.Goals as goal

-- the layer names the number that is next, and the number after it is next
pub returns : goal.returns
returns g c = λ world hub s found.
    let stands = c.set_session_name.ensures.in_world world hub s found in
    record {
      tag = stands.tag;
      next = ap (λ (next : NextNumbers). record next { session = next.session + 1 }) (c.set_session_name.ensures.next ∙ s.next);
      clients = stands.clients;
      hubs =
          stands.hubs
          ∙ (λ i. replace_at world.hubs c.args.number (with_session hub (Some (record { tag = s.tag i; number = (s.next i).session }))));
      sessions = stands.sessions;
      spans = stands.spans;
      books = stands.books;
    }
