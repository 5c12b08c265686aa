-- None, one or a list.
use Rattle.std.specs.Prelude.{List}
use Rattle.std.specs.Option.{option_to_list}
use Rattle.sentry_plain.specs.declared.few.Body.{Body}
use Rattle.sentry_plain.specs.declared.few.Body.TheVariants as body

module _ {X : Type 0} where
  -- the items, in order
  abbrev pub items_of : Body X → List X
  items_of (body.Single item) = option_to_list item
  items_of (body.List list) = list.items
