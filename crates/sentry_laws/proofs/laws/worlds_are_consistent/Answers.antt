use Rattle.sentry_laws.proofs.ActiveSpans.{active_spans_held}
use Rattle.sentry_laws.proofs.Isolation.{named_clients_held}
use Rattle.sentry_laws.proofs.LabelBooks.{books_of_clients}
use Rattle.sentry_laws.proofs.NamedSessions.{sessions_named}
use Rattle.sentry_laws.proofs.Numbers.{numbers_are_free}
use Rattle.sentry_laws.proofs.laws.worlds_are_consistent.Goals as goal

pub returns : goal.returns
returns c s = record { numbers = numbers_are_free; books = books_of_clients; clients = named_clients_held; spans = active_spans_held; sessions = sessions_named }
