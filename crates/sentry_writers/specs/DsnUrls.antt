-- Where and how envelopes are posted.
use Rattle.std.specs.Prelude.{◌==◌, not, ℕ, Bool, true, false, if◌then◌else◌, [], ◌∷◌, ◌++◌, reverse, codes, decimal, Option, Some, None, Ok, Err}
use Rattle.url.specs.Parser.{Parsed, parse_url}
use Rattle.url.specs.Parts.{Parts}
use Rattle.sentry_plain.specs.Texts.{Bytes}
use Rattle.sentry_texts.specs.DsnParts.{DsnParts}
use Rattle.sentry_texts.specs.DsnTexts.{is_slash, default_port_of, scheme_name}

-- a text without the bytes at its front that pass a test
abbrev pub without_front : (ℕ → Bool) → Bytes → Bytes
without_front test [] = []
without_front test (b ∷ text) = if test b then without_front test text else b ∷ text

-- a text without the bytes at its end that pass a test
abbrev pub without_end : (ℕ → Bool) → Bytes → Bytes
without_end test text = reverse (without_front test (reverse text))

-- a byte of a path is a slash, or is none
abbrev pub is_slash_or_not : Bool → ℕ → Bool
is_slash_or_not true b = is_slash b
is_slash_or_not false b = not (is_slash b)

-- a path without its last segment that isn't empty
abbrev pub before_project : Bytes → Bytes
before_project path = without_end (is_slash_or_not false) (without_end (is_slash_or_not true) path)

-- of a text that is no URL, nothing
abbrev pub path_of : Parsed Parts → Bytes
path_of (Ok url) = url.path
path_of (Err error) = []

-- a colon and the port, unless it is the default one of the scheme
abbrev pub port_text : DsnParts → Bytes
port_text dsn = if dsn.port == default_port_of dsn.scheme then [] else codes ":" ++ decimal dsn.port

-- the URL to which envelopes are posted, below a path
abbrev pub url_below : DsnParts → Bytes → Bytes
url_below dsn path =
    scheme_name dsn.scheme ++ codes "://" ++ dsn.host ++ port_text dsn ++ path ++ codes "api/" ++ dsn.project
    ++ codes "/envelope/"

-- the path is that of the DSN's text, without the project
abbrev pub envelope_api_url : DsnParts → Bytes
envelope_api_url dsn = url_below dsn (before_project (path_of (parse_url None dsn.text)))

-- and who sends, if that is told
abbrev pub with_agent : Bytes → Option Bytes → Bytes
with_agent text None = text
with_agent text (Some agent) = text ++ codes ", sentry_client=" ++ agent

-- the header by which the public key is told
abbrev pub to_auth : DsnParts → Option Bytes → Bytes
to_auth dsn agent = with_agent (codes "Sentry sentry_key=" ++ dsn.public_key ++ codes ", sentry_version=7") agent
