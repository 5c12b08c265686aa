use Rattle.std.proofs.Common.{◌≡◌, ◌∷◌, [], ◌++◌, ◌+◌, List, take, get_or, map, ap, sym, ◌∙◌, subst}
use Rattle.std.proofs.lemmas.List.{take_more, take_all}
use Rattle.sentry_base.specs.declared.protocol.envelope.EnvelopeItem.{EnvelopeItem}
use Rattle.sentry_framing.specs.Lines.{envelope_text}
use Rattle.sentry_framing.specs.Receiver.{read_envelope}
use Rattle.sentry_envelope.specs.Envelopes.{headers_json, item_parts}
use Rattle.sentry_envelope.proofs.NamesOfRecords.{names_come_once}
use Rattle.sentry_envelope.proofs.Sending.{HasSent, HasSent-none, HasSent-push, receives}
use Rattle.sentry_envelope.proofs.envelopes.to_vec_with_stacktraces.Goals as goal

pub loop-item-init : goal.loop-item-init
loop-item-init c = HasSent-none c.args.stacktraces.now (headers_json c.args.envelope.now.header) c.in_ok-text.text.items c.in_ok-text.ensures.text

pub loop-item-preserved : goal.loop-item-preserved
loop-item-preserved c =
    let items = c.as_slice-item-items.result.now in
    let i = c.loop-item.item-index in
    let x = c.item-item.result in
    let more : take (i + 1) items ≡ take i items ++ x ∷ [] =
    take_more items i x c.loop-item-test.true ∙ ap (λ (y : EnvelopeItem). take i items ++ y ∷ []) (sym c.item-item.is) in
    subst (λ (sent : List EnvelopeItem). HasSent c.args.stacktraces.now (headers_json c.args.envelope.now.header) c.in_ok-text-2.text.items sent) (sym more)
    (HasSent-push c.args.stacktraces.now _ c.loop-item.text.items c.in_ok-text-2.text.items (take i items) x c.loop-item.invariant c.in_ok-text-2.ensures.text c.in_ok-text-2.ensures.sendable c.in_ok-text-2.ensures.reads_back)

pub returns-clause-text : goal.returns-clause-text
returns-clause-text c =
    let items = c.as_slice-item-items.result.now in
    c.loop-item.invariant.text
    ∙ ap (λ (sent : List EnvelopeItem). envelope_text (headers_json c.args.envelope.now.header) (map (item_parts c.args.stacktraces.now) sent))
    (take_all c.loop-item.item-index items c.loop-item-test.false ∙ c.as_slice-item-items.ensures)

pub returns-clause-reads_back : goal.returns-clause-reads_back
returns-clause-reads_back c =
    let items = c.as_slice-item-items.result.now in
    let sent : HasSent c.args.stacktraces.now (headers_json c.args.envelope.now.header) c.loop-item.text.items c.args.envelope.now.items =
    subst (λ (sent : List EnvelopeItem). HasSent c.args.stacktraces.now (headers_json c.args.envelope.now.header) c.loop-item.text.items sent)
    (take_all c.loop-item.item-index items c.loop-item-test.false ∙ c.as_slice-item-items.ensures) c.loop-item.invariant in
    ap read_envelope sent.text ∙ receives c.args.stacktraces.now c.args.envelope.now.header c.args.envelope.now.items c.in_ok-text.ensures.readable sent.readable

pub returns-clause-payloads : goal.returns-clause-payloads
returns-clause-payloads c =
    let items = c.as_slice-item-items.result.now in
    (subst (λ (sent : List EnvelopeItem). HasSent c.args.stacktraces.now (headers_json c.args.envelope.now.header) c.loop-item.text.items sent)
    (take_all c.loop-item.item-index items c.loop-item-test.false ∙ c.as_slice-item-items.ensures) c.loop-item.invariant).readable.payloads

pub returns-clause-names : goal.returns-clause-names
returns-clause-names c = λ k d within. names_come_once c.args.stacktraces.now (get_or c.args.envelope.now.items k d)
