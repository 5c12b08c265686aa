use Rattle.sentry_plain.proofs.BodyLemmas.{counted_less, counted_same}
use Rattle.sentry_plain.proofs.text_map.entries.Entries.remove.Goals as goal

pub invariant_of-self-in-None : goal.invariant_of-self-in-None
invariant_of-self-in-None g c =
    let done = c.in_ok-remove.ensures in
    counted_same c.self.inside.body c.remove.new.self c.args.key.now c.self.inside.count c.in_ok-remove.field-0 c.self.invariant c.in-None.is done.value done.rest done.all

pub invariant_of-self-in-Some : goal.invariant_of-self-in-Some
invariant_of-self-in-Some g c =
    let done = c.in_ok-remove.ensures in
    counted_less c.self.inside.body c.remove.new.self c.args.key.now c.self.inside.count c.in_ok-remove.field-0 c.in-Some.value c.self.invariant c.in-Some.is done.value done.rest done.all
