use Rattle.std.proofs.Common.{arith, ◌≡◌, ◌<◌, ◌^◌, ◌∷◌, [], ◌++◌, length, List, IsUtf8, ap, subst, ◌∙◌, append_assoc}
use Rattle.json.specs.Print.{print}
use Rattle.json.specs.Token.{Token}
use Rattle.json.specs.Tree.{json_tokens}
use Rattle.sentry_framing.proofs.Written.{filled}
use Rattle.sentry_framing.specs.Json.{Bytes}
use Rattle.sentry_framing.specs.Lines.{line}
use Rattle.sentry_framing.specs.Headers.{header_of, item_header}
use Rattle.sentry_framing.proofs.Headed.{IsSendable-item_header}
use Rattle.sentry_framing.proofs.lines.push_item.Goals as goal

-- a text, a line and a payload in a line
lines : (text header payload : Bytes) → (((text ++ header) ++ 10 ∷ []) ++ payload) ++ 10 ∷ [] ≡ text ++ (line header ++ line payload)
lines text header payload =
    append_assoc ((text ++ header) ++ 10 ∷ []) payload (10 ∷ [])
    ∙ ap (λ xs. xs ++ line payload) (append_assoc text header (10 ∷ []))
    ∙ append_assoc text (line header) (line payload)

pub returns-clause-text : goal.returns-clause-text
returns-clause-text c =
    c.in_ok-push-2.ensures.items
    ∙ ap (λ xs. xs ++ 10 ∷ []) (c.in_ok-extend_from_slice.ensures.items
    ∙ ap (λ xs. xs ++ c.args.payload.now) (c.in_ok-push.ensures.items
    ∙ ap (λ xs. xs ++ 10 ∷ []) (c.in_ok-reserve.ensures.items
    ∙ filled c.in_ok-write_item_header.ensures.tokens c.new-out.ensures.before c.new-out.ensures.tokens c.into_inner-text.ensures.items)))
    ∙ lines c.args.text.items _ c.args.payload.now

pub returns-clause-sendable : goal.returns-clause-sendable
returns-clause-sendable c =
    let small : length c.args.payload.now < 2 ^ 64 = omega arith in
    let len = length c.args.payload.now in
    let all : c.write_item_header.new.out.tokens ≡ json_tokens (item_header (header_of c.args.header) len) =
    c.in_ok-write_item_header.ensures.tokens.tokens ∙ ap (λ (ts : List Token). ts ++ json_tokens (item_header (header_of c.args.header) len)) c.new-out.ensures.tokens in
    IsSendable-item_header (header_of c.args.header) c.args.payload.now c.in_ok-write_item_header.ensures.fits small
    (subst (λ (ts : List Token). IsUtf8 (print ts)) all c.into_inner-text.ensures.utf8)
