-- The text of an item's content, and how it is read back.
use Rattle.std.proofs.Common.{◌≡◌, IsUtf8, refl}
use Rattle.json.specs.Lex.{tokens}
use Rattle.json.specs.Print.{print, print_from}
use Rattle.sentry_framing.specs.Json.{json_text}
use Rattle.sentry_framing.specs.Content.{Content, json, file, content_tokens, record_text, ReadsBack}
use Rattle.sentry_framing.proofs.Received.{document-json_text, is_json}

pub print_content : (content : Content) → print (content_tokens content) ≡ record_text content
unfolding print_from
print_content (json j) = refl
print_content (file bytes) = refl

pub content_reads : (content : Content) → tokens (print (content_tokens content)) ≡ content_tokens content → IsUtf8 (print (content_tokens content)) → ReadsBack content
content_reads (json j) e u = λ shallow. is_json (json_text j) j u (document-json_text j e shallow)
content_reads (file bytes) e u = tt
