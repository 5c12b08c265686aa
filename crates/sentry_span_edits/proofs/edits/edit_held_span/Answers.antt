use Rattle.std.proofs.Common.{◌∙◌}
use Rattle.sentry_state.proofs.SpanKeeping.{span_in_table, span_replaced}
use Rattle.sentry_span_edits.specs.Edits.{edit_span_record}
use Rattle.sentry_span_edits.proofs.EditLemmas.{span_under_number}
use Rattle.sentry_span_edits.proofs.edits.edit_held_span.Goals as goal

pub returns-clause-in_world : goal.returns-clause-in_world
returns-clause-in_world g c = λ world held s at. record {
  tag = s.tag;
  next = s.next;
  clients = s.clients;
  hubs = s.hubs;
  sessions = s.sessions;
  books = s.books;
  spans =
      c.in_ok-edit_span_at.ensures.ok held (span_in_table c.args.state.now world s c.args.key held at)
      ∙ span_replaced c.args.state.now world s c.args.key.number (edit_span_record c.args.edit held);
}

pub edit_span_at-requires : goal.edit_span_at-requires
edit_span_at-requires g c = span_under_number c.args.state.now.spans c.args.key c.requires
