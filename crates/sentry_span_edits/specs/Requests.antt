-- What a span says of a request.
use Rattle.std.specs.Prelude.{List, [], ◌∷◌, Option, Some, None, map, codes, unwrap_or}
use Rattle.std.specs.Option.{option_and_then}
use Rattle.serde_json.specs.Read.{read}
use Rattle.sentry_plain.specs.Texts.{Bytes, put, merge}
use Rattle.sentry_plain.specs.ValueView.{members_from}
use Rattle.sentry_plain.specs.Values.{Data, map_of, text}
use Rattle.sentry_base.specs.declared.protocol.request.Request.{Request}
use Rattle.sentry_texts.specs.Json.{plain_of}

-- a body is a value where it is JSON of whole numbers of 64 bits, and else a text
abbrev pub body_data : Bytes → Data
body_data body = unwrap_or (option_and_then plain_of (read body)) (text body)

-- texts as a map of values
abbrev pub texts_data : List (Bytes × Bytes) → Data
texts_data texts = map_of (members_from (merge (map (λ e. (e.0, text e.1)) texts) []))

-- with the body, if there is one
abbrev pub put_body : Option Bytes → List (Bytes × Data) → List (Bytes × Data)
put_body None data_ = data_
put_body (Some body) data_ = put data_ (codes "data") (body_data body)

-- with a text, if there is one
abbrev pub put_text : Bytes → Option Bytes → List (Bytes × Data) → List (Bytes × Data)
put_text key None data_ = data_
put_text key (Some value) data_ = put data_ key (text value)

-- with texts, if there are any
abbrev pub put_texts : Bytes → List (Bytes × Bytes) → List (Bytes × Data) → List (Bytes × Data)
put_texts key [] data_ = data_
put_texts key (first ∷ rest) data_ = put data_ key (texts_data (first ∷ rest))

-- the data of a span, with what a request says
unfoldable pub with_request : Request → List (Bytes × Data) → List (Bytes × Data)
with_request request data_ =
    put_texts (codes "env") request.env
    (put_texts (codes "headers") request.headers
    (put_text (codes "cookies") request.cookies
    (put_text (codes "query_string") request.query_string
    (put_body request.data_
    (put_text (codes "url") request.url
    (put_text (codes "method") request.method data_))))))
