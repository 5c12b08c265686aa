use Rattle.std.proofs.Common.{◌≡◌, ℕ, ◌++◌, ◌+◌, ◌<◌, ◌≤◌, List, [], Option, length, drop, take, get_or, sym, ap, ◌∙◌, subst}
use Rattle.std.proofs.lemmas.List.{take_all, drop_all}
use Rattle.std.specs.Io.KnownBytes.{Appends}
use Rattle.sentry_plain.specs.Texts.{Bytes}
use Rattle.sentry_base.specs.declared.protocol.envelope.EnvelopeItem.{EnvelopeItem}
use Rattle.sentry_framing.specs.Json.{json_text}
use Rattle.sentry_framing.specs.Lines.{line, item_text}
use Rattle.sentry_framing.specs.Sending.{AppendsFront}
use Rattle.sentry_framing.proofs.SendingLemmas.{Progress, nothing_written, some_written, all_written, piece_written, piece_begun}
use Rattle.sentry_envelope.specs.Envelopes.{headers_json, item_parts, envelope_text}
use Rattle.sentry_envelope.proofs.Lists.{on_err}
use Rattle.sentry_envelope.proofs.Sending.{AreReadable, AreReadable-none, AreReadable-more, receives, items_text, items_text-next}
use Rattle.sentry_envelope.proofs.envelopes.to_writer.Goals as goal

pub returns-in_err-write_bytes-clause-err : goal.returns-in_err-write_bytes-clause-err
returns-in_err-write_bytes-clause-err g c =
    let first = line (json_text (headers_json c.args.envelope.now.header)) in
    let text : c.as_slice.result.now ≡ first = c.as_slice.ensures.value ∙ c.in_ok-header.ensures.text in
    on_err _
    (piece_begun (g.W.Write.contents c.args.writer.now) (g.W.Write.contents c.args.writer.now) (g.W.Write.contents c.write_bytes.new.writer)
    (envelope_text c.args.envelope.now) first (items_text c.args.envelope.now.items)
    (nothing_written (g.W.Write.contents c.args.writer.now) (envelope_text c.args.envelope.now))
    (subst (λ (bytes : Bytes). AppendsFront (g.W.Write.contents c.args.writer.now) (g.W.Write.contents c.write_bytes.new.writer) bytes) text c.in_err-write_bytes.ensures.err))

pub returns-in_err-text-clause-err : goal.returns-in_err-text-clause-err
returns-in_err-text-clause-err g c =
    on_err _
    (some_written (g.W.Write.contents c.args.writer.now) (g.W.Write.contents c.loop-item.writer) (envelope_text c.args.envelope.now) _ c.loop-item.invariant.0)

-- what is left is this item, and the others
next_item : (before between : Option Bytes) (text : Bytes) (items : List EnvelopeItem) (i : ℕ) (x : EnvelopeItem) → i < length items → Progress before between text (items_text (drop i items))
    → x ≡ get_or items i x → Progress before between text (item_text (item_parts [] x) ++ items_text (drop (i + 1) items))
next_item before between text items i x within so_far is =
    subst (λ (rest : Bytes). Progress before between text rest)
    (items_text-next items i x within ∙ ap (λ (y : EnvelopeItem). item_text (item_parts [] y) ++ items_text (drop (i + 1) items)) (sym is)) so_far

pub returns-in_err-write_bytes-2-clause-err : goal.returns-in_err-write_bytes-2-clause-err
returns-in_err-write_bytes-2-clause-err g c =
    let items = c.as_slice-item-items.result.now in
    let i = c.loop-item.item-index in
    let x = c.item-item.result in
    let text : c.as_slice-in-loop-item.result.now ≡ item_text (item_parts [] x) =
    c.as_slice-in-loop-item.ensures.value ∙ c.in_ok-text.ensures.text ∙ ap (λ (bytes : Bytes). bytes ++ item_text (item_parts [] x)) c.new.ensures.items in
    on_err _
    (piece_begun (g.W.Write.contents c.args.writer.now) (g.W.Write.contents c.loop-item.writer) (g.W.Write.contents c.write_bytes-in-loop-item.new.writer)
    (envelope_text c.args.envelope.now) (item_text (item_parts [] x)) (items_text (drop (i + 1) items))
    (next_item _ _ _ items i x c.loop-item-test.true c.loop-item.invariant.0 c.item-item.is)
    (subst (λ (bytes : Bytes). AppendsFront (g.W.Write.contents c.loop-item.writer) (g.W.Write.contents c.write_bytes-in-loop-item.new.writer) bytes) text c.in_err-write_bytes-2.ensures.err))

pub loop-item-init : goal.loop-item-init
loop-item-init g c =
    let first = line (json_text (headers_json c.args.envelope.now.header)) in
    let text : c.as_slice.result.now ≡ first = c.as_slice.ensures.value ∙ c.in_ok-header.ensures.text in
    let items : c.as_slice-item-items.result.now ≡ c.args.envelope.now.items = c.as_slice-item-items.ensures in (
      subst (λ (left : List EnvelopeItem). Progress (g.W.Write.contents c.args.writer.now) (g.W.Write.contents c.write_bytes.new.writer) (envelope_text c.args.envelope.now) (items_text left))
          (sym items)
          (piece_written (g.W.Write.contents c.args.writer.now) (g.W.Write.contents c.args.writer.now) (g.W.Write.contents c.write_bytes.new.writer)
          (envelope_text c.args.envelope.now) first (items_text c.args.envelope.now.items)
          (nothing_written (g.W.Write.contents c.args.writer.now) (envelope_text c.args.envelope.now))
          (subst (λ (bytes : Bytes). Appends (g.W.Write.contents c.args.writer.now) (g.W.Write.contents c.write_bytes.new.writer) bytes) text c.in_ok-write_bytes.ensures.ok)),
      AreReadable-none [],
    )

pub loop-item-preserved : goal.loop-item-preserved
loop-item-preserved g c =
    let items = c.as_slice-item-items.result.now in
    let i = c.loop-item.item-index in
    let x = c.item-item.result in
    let text : c.as_slice-in-loop-item.result.now ≡ item_text (item_parts [] x) =
    c.as_slice-in-loop-item.ensures.value ∙ c.in_ok-text.ensures.text ∙ ap (λ (bytes : Bytes). bytes ++ item_text (item_parts [] x)) c.new.ensures.items in (
      piece_written (g.W.Write.contents c.args.writer.now) (g.W.Write.contents c.loop-item.writer) (g.W.Write.contents c.write_bytes-in-loop-item.new.writer)
          (envelope_text c.args.envelope.now) (item_text (item_parts [] x)) (items_text (drop (i + 1) items))
          (next_item _ _ _ items i x c.loop-item-test.true c.loop-item.invariant.0 c.item-item.is)
          (subst (λ (bytes : Bytes). Appends (g.W.Write.contents c.loop-item.writer) (g.W.Write.contents c.write_bytes-in-loop-item.new.writer) bytes) text c.in_ok-write_bytes-2.ensures.ok),
      AreReadable-more [] items i x c.loop-item-test.true c.item-item.is c.loop-item.invariant.1 c.in_ok-text.ensures.sendable c.in_ok-text.ensures.reads_back,
    )

-- a receiver can read all items
readable : (items all : List EnvelopeItem) (i : ℕ) → length items ≤ i → items ≡ all → AreReadable [] (take i items) → AreReadable [] all
readable items all i done is h = subst (AreReadable []) (take_all i items done ∙ is) h

pub returns-clause-ok : goal.returns-clause-ok
returns-clause-ok g c =
    all_written (g.W.Write.contents c.args.writer.now) (g.W.Write.contents c.loop-item.writer) (envelope_text c.args.envelope.now)
    (items_text (drop c.loop-item.item-index c.as_slice-item-items.result.now)) c.loop-item.invariant.0
    (ap items_text (drop_all c.loop-item.item-index c.as_slice-item-items.result.now c.loop-item-test.false))

pub returns-clause-reads_back : goal.returns-clause-reads_back
returns-clause-reads_back g c =
    receives [] c.args.envelope.now.header c.args.envelope.now.items c.in_ok-header.ensures.readable
    (readable c.as_slice-item-items.result.now c.args.envelope.now.items c.loop-item.item-index c.loop-item-test.false c.as_slice-item-items.ensures c.loop-item.invariant.1)

pub returns-clause-payloads : goal.returns-clause-payloads
returns-clause-payloads g c =
    (readable c.as_slice-item-items.result.now c.args.envelope.now.items c.loop-item.item-index c.loop-item-test.false c.as_slice-item-items.ensures c.loop-item.invariant.1).payloads
