-- What the link of an error tells.
use Rattle.std.specs.Prelude.{◌≡◌, Option, IfSome}
use Rattle.sentry_base.specs.declared.protocol.error_link.ErrorLink.{ErrorLink}
use Rattle.sentry_plain.specs.Texts.{Bytes}

-- its texts are what the error prints for developers and for users, where that is specified
abbrev pub Tells : ErrorLink → Option Bytes → Option Bytes → Type 0
Tells link debug shown = IfSome debug (λ text. link.debug ≡ text) × IfSome shown (λ text. link.shown ≡ text)
