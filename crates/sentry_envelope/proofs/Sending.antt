-- How the items of an envelope follow its header.
use Rattle.std.proofs.Common.{◌≡◌, ◌≤◌, List, [], ◌∷◌, ◌++◌, map, flat_map, Option, Some, None, codes, sym, ap, ◌∙◌, subst, arith, append_assoc, append-nil, IsUtf8, ℕ, ◌+◌, ◌<◌, length, drop, get_or, take, add-one, drop-cons}
use Rattle.std.specs.Prelude.{IfSome, All}
use Rattle.std.proofs.lemmas.List.{map-append, take_more}
use Rattle.std.proofs.lemmas.List.Elements.{All-push}
use Rattle.json.specs.Json.{Json, string, object, Members, no_members}
use Rattle.json.specs.Tree.{depth, members_depth, HasNumbers, MembersHaveNumbers}
use Rattle.uuid.specs.Text.{hyphenated_text, lower}
use Rattle.sentry_base.specs.declared.protocol.envelope.EnvelopeItem.{EnvelopeItem}
use Rattle.sentry_base.specs.declared.protocol.envelope.EnvelopeHeaders.{EnvelopeHeaders}
use Rattle.sentry_base.specs.declared.protocol.envelope.DynamicSamplingContext.{DynamicSamplingContext}
use Rattle.sentry_plain.specs.Texts.{Bytes}
use Rattle.sentry_framing.specs.Json.{optional, json_text}
use Rattle.sentry_framing.specs.Lines.{Item, line, item_text, envelope_text}
use Rattle.sentry_framing.specs.Receiver.{read_envelope}
use Rattle.sentry_framing.specs.Headers.{HasLines, MembersHaveLines, IsHeader, IsSendable}
use Rattle.sentry_framing.proofs.Received.{AreSendable, AreSendable-append, read_envelope-envelope_text}
use Rattle.sentry_framing.proofs.Headed.{each, MembersHaveNumbers-optional, MembersHaveLines-optional, members_depth-optional}
use Rattle.sentry_envelope.specs.Envelopes.{Stacktraces, item_parts, headers_json, trace_json, PayloadReadsBack}

-- a receiver can read these items, and what was written as JSON in them
pub record AreReadable (ss : Stacktraces) (items : List EnvelopeItem) : Type 0 where
  pub sendable : AreSendable (map (item_parts ss) items)
  pub payloads : All (PayloadReadsBack ss) items

pub AreReadable-none : (ss : Stacktraces) → AreReadable ss []
AreReadable-none ss = record { sendable = tt; payloads = λ k d within. absurd (omega arith) }

pub AreReadable-push : (ss : Stacktraces) (items : List EnvelopeItem) (i : EnvelopeItem) → AreReadable ss items → IsSendable (item_parts ss i) → PayloadReadsBack ss i
    → AreReadable ss (items ++ i ∷ [])
AreReadable-push ss items i h s p =
    let parts : map (item_parts ss) (items ++ i ∷ []) ≡ map (item_parts ss) items ++ item_parts ss i ∷ [] = map-append (item_parts ss) items (i ∷ []) in
    record {
      sendable = subst AreSendable (sym parts) (AreSendable-append (map (item_parts ss) items) (item_parts ss i ∷ []) h.sendable (s, tt));
      payloads = All-push (PayloadReadsBack ss) items i h.payloads p;
    }

pub AreReadable-more : (ss : Stacktraces) (items : List EnvelopeItem) (i : ℕ) (x : EnvelopeItem) → i < length items → x ≡ get_or items i x → AreReadable ss (take i items)
    → IsSendable (item_parts ss x) → PayloadReadsBack ss x → AreReadable ss (take (i + 1) items)
AreReadable-more ss items i x within is h s p =
    let more : take (i + 1) items ≡ take i items ++ x ∷ [] = take_more items i x within ∙ ap (λ (y : EnvelopeItem). take i items ++ y ∷ []) (sym is) in
    subst (AreReadable ss) (sym more) (AreReadable-push ss (take i items) x h s p)

-- the text has the header and these items, which a receiver can read
pub record HasSent (ss : Stacktraces) (header : Json) (bytes : Bytes) (items : List EnvelopeItem) : Type 0 where
  pub text : bytes ≡ envelope_text header (map (item_parts ss) items)
  pub readable : AreReadable ss items

pub HasSent-none : (ss : Stacktraces) (header : Json) (text : Bytes) → text ≡ line (json_text header) → HasSent ss header text []
HasSent-none ss header text e = record { text = e ∙ sym (append-nil (line (json_text header))); readable = AreReadable-none ss }

flat_map-push : (items : List Item) (i : Item) → flat_map item_text (items ++ i ∷ []) ≡ flat_map item_text items ++ item_text i
flat_map-push [] i = append-nil (item_text i)
flat_map-push (j ∷ items) i = ap (λ ts. item_text j ++ ts) (flat_map-push items i) ∙ sym (append_assoc (item_text j) (flat_map item_text items) (item_text i))

pub HasSent-push : (ss : Stacktraces) (header : Json) (old new : Bytes) (items : List EnvelopeItem) (i : EnvelopeItem) → HasSent ss header old items
    → new ≡ old ++ item_text (item_parts ss i) → IsSendable (item_parts ss i) → PayloadReadsBack ss i → HasSent ss header new (items ++ i ∷ [])
HasSent-push ss header old new items i h e s p =
    let parts : map (item_parts ss) (items ++ i ∷ []) ≡ map (item_parts ss) items ++ item_parts ss i ∷ [] = map-append (item_parts ss) items (i ∷ []) in
    let head = line (json_text header) in
    record {
      text =
          e ∙ ap (λ ts. ts ++ item_text (item_parts ss i)) h.text
          ∙ append_assoc head (flat_map item_text (map (item_parts ss) items)) (item_text (item_parts ss i))
          ∙ ap (λ ts. head ++ ts) (sym (flat_map-push (map (item_parts ss) items) (item_parts ss i)))
          ∙ ap (envelope_text header) (sym parts);
      readable = AreReadable-push ss items i h.readable s p;
    }

-- ---- the header of an envelope can be read

module _ {X : Type 0} where
  -- a text may be a member of a header
  texts_numbers : (f : X → Bytes) (key : Bytes) (o : Option X) (rest : Members) → MembersHaveNumbers rest → MembersHaveNumbers (optional (λ x. string (f x)) key o rest)
  texts_numbers f key None rest h = h
  texts_numbers f key (Some x) rest h = (tt, h)

  texts_lines : (f : X → Bytes) (key : Bytes) (o : Option X) (rest : Members) → MembersHaveLines rest → MembersHaveLines (optional (λ x. string (f x)) key o rest)
  texts_lines f key None rest h = h
  texts_lines f key (Some x) rest h = (tt, h)

  texts_depth : (f : X → Bytes) (key : Bytes) (o : Option X) (rest : Members) → members_depth rest ≤ 0 → members_depth (optional (λ x. string (f x)) key o rest) ≤ 0
  texts_depth f key None rest h = h
  texts_depth f key (Some x) rest h = omega arith

HasNumbers-trace_json : (trace : DynamicSamplingContext) → HasNumbers (trace_json trace)
HasNumbers-trace_json trace =
    texts_numbers _ _ trace.trace_id _ (texts_numbers _ _ trace.public_key _ (texts_numbers _ _ trace.sample_rate _ (texts_numbers _ _ trace.sampled _ tt)))

HasLines-trace_json : (trace : DynamicSamplingContext) → HasLines (trace_json trace)
HasLines-trace_json trace =
    texts_lines _ _ trace.trace_id _ (texts_lines _ _ trace.public_key _ (texts_lines _ _ trace.sample_rate _ (texts_lines _ _ trace.sampled _ tt)))

one_deep : (ms : Members) → members_depth ms ≤ 0 → depth (object ms) ≤ 1
one_deep ms h = omega arith

depth-trace_json : (trace : DynamicSamplingContext) → depth (trace_json trace) ≤ 1
depth-trace_json trace =
    one_deep _ (texts_depth _ _ trace.trace_id _ (texts_depth _ _ trace.public_key _ (texts_depth _ _ trace.sample_rate _ (texts_depth _ _ trace.sampled no_members (omega arith)))))

trace_depth : (o : Option DynamicSamplingContext) → IfSome o (λ trace. depth (trace_json trace) ≤ 1)
trace_depth None = tt
trace_depth (Some trace) = depth-trace_json trace

event_id_depth : (o : Option Bytes) → IfSome o (λ id. depth (string (hyphenated_text lower id)) ≤ 1)
event_id_depth None = tt
event_id_depth (Some id) = omega arith

pub IsHeader-headers_json : (headers : EnvelopeHeaders) → IsUtf8 (json_text (headers_json headers)) → IsHeader (headers_json headers)
IsHeader-headers_json headers utf8 = record {
  numbers = texts_numbers _ _ headers.event_id _ (MembersHaveNumbers-optional trace_json (codes "trace") headers.trace no_members (each HasNumbers-trace_json headers.trace) tt);
  lines = texts_lines _ _ headers.event_id _ (MembersHaveLines-optional trace_json (codes "trace") headers.trace no_members (each HasLines-trace_json headers.trace) tt);
  shallow =
      let deep = members_depth-optional (λ id. string (hyphenated_text lower id)) (codes "event_id") 1 headers.event_id _ (event_id_depth headers.event_id)
      (members_depth-optional trace_json (codes "trace") 1 headers.trace no_members (trace_depth headers.trace) (omega arith)) in
      omega (arith, deep);
  utf8 = utf8;
}

-- a receiver takes apart what was sent
pub receives : (ss : Stacktraces) (headers : EnvelopeHeaders) (items : List EnvelopeItem) → IsHeader (headers_json headers) → AreReadable ss items
    → read_envelope (envelope_text (headers_json headers) (map (item_parts ss) items)) ≡ Some (headers_json headers, map (item_parts ss) items)
receives ss headers items readable h = read_envelope-envelope_text (headers_json headers) (map (item_parts ss) items) readable h.sendable

-- ---- an envelope that is written an item at a time

-- the text of the items that are left
abbrev pub items_text : List EnvelopeItem → Bytes
items_text items = flat_map item_text (map (item_parts []) items)

pub items_text-next : (items : List EnvelopeItem) (i : ℕ) (d : EnvelopeItem) → i < length items
    → items_text (drop i items) ≡ item_text (item_parts [] (get_or items i d)) ++ items_text (drop (i + 1) items)
items_text-next items i d h =
    let at : drop i items ≡ get_or items i d ∷ drop (i + 1) items = rw add-one (drop-cons items i d h) in
    ap items_text at
