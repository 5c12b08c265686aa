use Rattle.std.proofs.Common.{◌∙◌, ◌+◌, ap}
use Rattle.sentry_state.specs.declared.state.NextNumbers.{NextNumbers}
use Rattle.sentry_state.proofs.SpanKeeping.{span_stored}
use Rattle.sentry_state.proofs.state.State.hold_span.Goals as goal

-- it stands under the number that is next, and the number after it is next
pub returns-clause-in_world : goal.returns-clause-in_world
returns-clause-in_world g c = λ world s. (
  (λ i. record { tag = s.tag i; number = (s.next i).span }),
  record {
    tag = s.tag;
    next = ap (λ (next : NextNumbers). record next { span = next.span + 1 }) s.next;
    clients = s.clients;
    hubs = c.expect_span.ensures ∙ s.hubs;
    sessions = s.sessions;
    books = s.books;
    spans = c.in_ok-insert_span.ensures.ok ∙ span_stored c.args.self.now world s c.args.span;
  },
)
