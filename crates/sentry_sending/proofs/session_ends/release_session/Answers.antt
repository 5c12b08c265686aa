use Rattle.std.proofs.Common.{◌≡◌, ◌∙◌, ap, sym, Some, None, is_some}
use Rattle.sentry_plain.specs.Tables.{value_at, replace_at}
use Rattle.sentry_hub_table.specs.Hubs.{with_session}
use Rattle.sentry_state.specs.declared.state.State.{State}
use Rattle.sentry_plain.proofs.ChangeLemmas.{changed_same}
use Rattle.sentry_state.proofs.TableLemmas.{held_replaced, value_replaced, replaced_twice}
use Rattle.sentry_sending.proofs.session_ends.release_session.Goals as goal

-- the layer names its session again
pub returns-in-Err-clause-err : goal.returns-in-Err-clause-err
returns-in-Err-clause-err g c =
    let old = c.args.state.now in
    let n = c.args.number in
    let hub = c.in-Some.hub.now in
    let unnamed = with_session hub None in
    let found : value_at old.hubs n ≡ Some hub = sym c.in-Some.ensures in
    let written : c.set_session.new.self ≡ replace_at old.hubs n unnamed = c.set_session.ensures hub found in
    let ended : c.end_unnamed_session.new.state ≡ record old { hubs = replace_at old.hubs n unnamed } =
    c.in-Err.ensures.err ∙ ap (λ hubs. record old { hubs = hubs }) written in
    let there : value_at c.end_unnamed_session.new.state.hubs n ≡ Some unnamed =
    ap (λ (e : State g.row.P.Denot g.row.C.Denot). value_at e.hubs n) ended ∙ value_replaced n old.hubs unnamed hub found in
    c.set_session_name.ensures.engine unnamed there
    ∙ ((λ i. record (ended i) { hubs = replace_at (ended i).hubs n (with_session unnamed hub.stack.top.session) })
    ∙ ap (λ hubs. record old { hubs = hubs }) (replaced_twice n old.hubs unnamed hub ∙ changed_same old.hubs n hub found))

-- the hub that gave up its session is still held
pub set_session_name-requires : goal.set_session_name-requires
set_session_name-requires g c =
    let old = c.args.state.now in
    let n = c.args.number in
    let hub = c.in-Some.hub.now in
    let unnamed = with_session hub None in
    let written : c.set_session.new.self ≡ replace_at old.hubs n unnamed = c.set_session.ensures hub (sym c.in-Some.ensures) in
    let ended : c.end_unnamed_session.new.state ≡ record old { hubs = replace_at old.hubs n unnamed } =
    c.in-Err.ensures.err ∙ ap (λ hubs. record old { hubs = hubs }) written in
    ap (λ (e : State g.row.P.Denot g.row.C.Denot). is_some (value_at e.hubs n)) ended ∙ held_replaced n old.hubs unnamed c.requires

pub returns-in-Ok-clause-held : goal.returns-in-Ok-clause-held
returns-in-Ok-clause-held g c =
    let old = c.args.state.now in
    let n = c.args.number in
    let hub = c.in-Some.hub.now in
    let unnamed = with_session hub None in
    let written : c.set_session.new.self ≡ replace_at old.hubs n unnamed = c.set_session.ensures hub (sym c.in-Some.ensures) in
    ap (λ hubs. is_some (value_at hubs n)) (c.in-Ok.ensures.hubs ∙ written) ∙ held_replaced n old.hubs unnamed c.requires
