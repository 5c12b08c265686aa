use Rattle.std.proofs.Common.{◌≡◌, ◌++◌, List, IsUtf8, sym, ap, subst, ◌∙◌}
use Rattle.json.specs.Lex.{tokens}
use Rattle.json.specs.Print.{print}
use Rattle.json.specs.Token.{Token}
use Rattle.sentry_framing.specs.Content.{content_tokens}
use Rattle.sentry_framing.proofs.Written.{filled}
use Rattle.sentry_framing.proofs.Contents.{print_content, content_reads}
use Rattle.sentry_envelope.specs.Envelopes.{item_content}
use Rattle.sentry_envelope.proofs.items.record_text.Goals as goal

pub returns-clause-text : goal.returns-clause-text
returns-clause-text c =
    let content = item_content c.args.stacktraces.now c.args.item.now in
    filled {ts = content_tokens content} c.in_ok-write_record.ensures (c.new-out.ensures.before ∙ c.new.ensures.items) c.new-out.ensures.tokens c.into_inner-text.ensures.items
    ∙ print_content content

pub returns-clause-reads_back : goal.returns-clause-reads_back
returns-clause-reads_back c =
    let content = item_content c.args.stacktraces.now c.args.item.now in
    let all : c.write_record.new.out.tokens ≡ content_tokens content =
    c.in_ok-write_record.ensures.tokens ∙ ap (λ (ts : List Token). ts ++ content_tokens content) c.new-out.ensures.tokens in
    content_reads content
    (sym (ap (λ (ts : List Token). tokens (print ts)) all) ∙ c.into_inner-text.ensures.reads_back ∙ all)
    (subst (λ (ts : List Token). IsUtf8 (print ts)) all c.into_inner-text.ensures.utf8)
