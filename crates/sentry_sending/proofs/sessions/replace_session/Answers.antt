use Rattle.std.proofs.Common.{◌≡◌, ◌+◌, ◌∙◌, ap, sym, subst, Some, None, is_some, false, rules}
use Rattle.std.specs.Prelude.{option_copied}
use Rattle.sentry_base.specs.declared.protocol.keys.SessionKey.{SessionKey}
use Rattle.sentry_plain.specs.Tables.{value_at, replace_at}
use Rattle.sentry_state.specs.Changes.{with_new_session, with_next_session_named}
use Rattle.sentry_hub_table.specs.Hubs.{with_session}
use Rattle.sentry_state.specs.Outcomes.{named_session}
use Rattle.sentry_state.specs.Worlds.{World, Stands}
use Rattle.sentry_state.specs.declared.state.State.{State}
use Rattle.sentry_state.proofs.Keeping.{session_stored}
use Rattle.sentry_state.proofs.TableLemmas.{value_replaced, replaced_twice}
use Rattle.sentry_sending.specs.Sending.{Sending}
use Rattle.sentry_sending.proofs.SendingLemmas.{ended_before, none_found}
use Rattle.sentry_sending.proofs.sessions.replace_session.Goals as goal

-- the session is held; then the layer gives up the one that it named, and names it
pub returns-in-Ok-clause-in_world : goal.returns-in-Ok-clause-in_world
returns-in-Ok-clause-in_world g c = λ world held start s found is.
    let old = c.args.state.now in
    let n = c.args.hub in
    let expected = c.expect_session.new.self in
    let found_there : value_at expected n ≡ Some held = ap (λ hubs. value_at hubs n) c.expect_session.ensures ∙ found in
    let stands : Stands (record old { hubs = expected; sessions = c.insert.new.self }) (with_new_session start world) = record {
      tag = s.tag;
      next = s.next;
      clients = s.clients;
      hubs = c.expect_session.ensures ∙ s.hubs;
      sessions = c.in_ok-insert.ensures.ok ∙ session_stored old world s start c.args.session is;
      books = s.books;
      spans = s.spans;
    } in
    let released = c.in-Ok.ensures.in_world (with_new_session start world) held stands found_there in
    let there : value_at c.release_session.new.state.hubs n ≡ Some (with_session held None) =
    ap (λ hubs. value_at hubs n) (c.in-Ok.ensures.hubs held found_there) ∙ value_replaced n expected (with_session held None) held found_there in
    (released.0, c.name_next_session-in-Ok.ensures _ (with_session held None) released.1 there)

-- the session that the layer named is held no more, so nothing ends
pub returns-then-is_none-clause-in_world : goal.returns-then-is_none-clause-in_world
returns-then-is_none-clause-in_world g c = λ world held start s found is.
    let old = c.args.state.now in
    let n = c.args.hub in
    let expected = c.expect_session.new.self in
    let found_there : value_at expected n ≡ Some held = ap (λ hubs. value_at hubs n) c.expect_session.ensures ∙ found in
    let begun = with_new_session start world in
    let stands : Stands (record old { hubs = expected; sessions = c.insert.new.self }) begun = record {
      tag = s.tag;
      next = s.next;
      clients = s.clients;
      hubs = c.expect_session.ensures ∙ s.hubs;
      sessions = c.in_ok-insert.ensures.ok ∙ session_stored old world s start c.args.session is;
      books = s.books;
      spans = s.spans;
    } in
    let same : Some c.in-Some-get.held.now ≡ Some held = c.in-Some-get.ensures ∙ found_there in
    let is_held : c.in-Some-get.held.now ≡ held = cc in
    let none : is_some (option_copied c.named_session.result) ≡ false = search rules in
    let gone = none_found (named_session begun c.in-Some-get.held.now.stack.top.session) (option_copied c.named_session.result)
    (c.named_session.ensures begun stands) none in
    let gone_there : named_session begun held.stack.top.session ≡ None = (λ i. named_session begun (sym is_held i).stack.top.session) ∙ gone in
    let released : World g.row.P.Denot g.row.C.Denot = record begun { hubs = replace_at begun.hubs n (with_session held None) } in
    let quiet = ended_before held.stack.top.session c.args.now released gone_there in
    let named = c.name_next_session.ensures begun held stands found_there in
    let key : SessionKey = record { tag = begun.tag; number = begun.next.session } in
    let renamed : World g.row.P.Denot g.row.C.Denot = record begun {
      next = record begun.next { session = begun.next.session + 1 };
      hubs = replace_at begun.hubs n (with_session held (Some key));
    } in
    let once : with_next_session_named n held released ≡ renamed = λ i. record renamed {
      hubs = replaced_twice n begun.hubs (with_session held None) (with_session held (Some key)) i;
    } in
    let after = sym once ∙ ap (λ (sending : Sending g.row.P.Denot g.row.C.Denot). with_next_session_named n held sending.after) (sym quiet) in (
      c.new.ensures ∙ ap (λ (sending : Sending g.row.P.Denot g.row.C.Denot). sending.sent) (sym quiet),
      subst (λ (w : World g.row.P.Denot g.row.C.Denot). Stands c.forget_name.new.state w) after
          (subst (λ (e : State g.row.P.Denot g.row.C.Denot). Stands e renamed) (sym c.forget_name.ensures) named),
    )
