-- The moment, the ids and the draw of a call, by the numbers that cross.
use Rattle.sentry_base.specs.declared.protocol.fresh.Fresh.{Fresh}
use Rattle.c_base.specs.declared.ids.FreshNumbers.{FreshNumbers}
use Rattle.c_base.specs.Numbers as numbers

-- kept as a name, so that searches don't compute it
unfoldable pub fresh_of : FreshNumbers → Fresh
fresh_of fresh = numbers.fresh_of fresh
