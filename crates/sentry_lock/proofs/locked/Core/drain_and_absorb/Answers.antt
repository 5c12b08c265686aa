use Rattle.std.proofs.Common.{◌≡◌, ◌∙◌, sym, true, rules}
use Rattle.sentry_lock.specs.Locked.{IsHeld}
use Rattle.sentry_lock.proofs.Labels.{labelled_after_drain}
use Rattle.sentry_lock.proofs.Sound.{after_drain, some_world}
use Rattle.sentry_lock.proofs.locked.Core.drain_and_absorb.Goals as goal

pub invariant_of-self-2 : goal.invariant_of-self-2
invariant_of-self-2 g c =
    let self = c.args.self.now in
    let has : c.has_book.result ≡ true = search rules in
    let held : IsHeld true c.args.label self.engine = λ world here. sym (c.has_book.ensures world here) ∙ has in
    record {
      sound =
          after_drain self.engine c.absorb_held.new.engine self.drainers c.drain_words.new.drainers c.args.label
          c.in-Some.drained.quantities c.in-Some.ensures held c.absorb_held.ensures self.sound;
      labelled =
          labelled_after_drain self.tag c.args.label.number self.drainers c.drain_words.new.drainers
          c.in-Some.drained.quantities c.in-Some.ensures self.labelled;
    }

pub absorb_held-requires-clause-stands : goal.absorb_held-requires-clause-stands
absorb_held-requires-clause-stands g c =
    let self = c.args.self.now in some_world self.engine self.drainers self.sound
