use Rattle.std.proofs.Common.{◌++◌, ap}
use Rattle.sentry_plain.proofs.BodyLemmas.{inside, same_body}
use Rattle.sentry_plain.proofs.text_map.entries.Body.make_room.Goals as goal

pub divide-requires-clause-inside : goal.divide-requires-clause-inside
divide-requires-clause-inside g c = inside c.args.key.now c.args.self.now.first c.args.self.now.others.items c.in-Some.place c.in-Some.ensures

pub returns-in-None : goal.returns-in-None
returns-in-None g c = c.share_first.ensures

pub returns-in-Some : goal.returns-in-Some
returns-in-Some g c =
    same_body c.args.self.now _ c.requires (ap (λ m. c.args.self.now.first ++ m) c.divide.ensures.same) c.divide.ensures.filled
