-- A writer that is flushed.
use Rattle.std.proofs.Common.{◌≡◌, ◌∙◌, sym, [], ◌++◌}
use Rattle.std.specs.Prelude.{Option, Some, None}
use Rattle.std.specs.Io.KnownBytes.{Appends, Keeps}
use Rattle.std.proofs.lemmas.List.{append-nil}
use Rattle.sentry_framing.specs.Sending.{AppendsFront}
use Rattle.sentry_plain.specs.Texts.{Bytes}

pub flushed : (before between after : Option Bytes) (text : Bytes) → Appends before between text → Keeps between after → Appends before after text
flushed None between after text a k = tt
flushed (Some x) None after text a k = absurd a
flushed (Some x) (Some y) None text a k = absurd k
flushed (Some x) (Some y) (Some z) text a k = k ∙ a

pub not_flushed : (before between after : Option Bytes) (text : Bytes) → Appends before between text → Keeps between after → AppendsFront before after text
not_flushed before between after text a k = (text, [], sym (append-nil text), flushed before between after text a k)
