use Rattle.std.proofs.Common.{◌≡◌, ◌∙◌, sym, true, rules}
use Rattle.std.specs.Prelude.{Some}
use Rattle.sentry_lock.specs.Locked.{IsHeld}
use Rattle.sentry_lock.specs.Words.{EndsWords}
use Rattle.sentry_lock.proofs.Choices.{of_some}
use Rattle.sentry_lock.proofs.Labels.{labelled_after_end}
use Rattle.sentry_lock.proofs.Sound.{after_end, some_world}
use Rattle.sentry_lock.proofs.locked.Core.close_losses.Goals as goal

pub invariant_of-self-2 : goal.invariant_of-self-2
invariant_of-self-2 g c =
    let self = c.args.self.now in
    let has : c.has_book.result ≡ true = search rules in
    let held : IsHeld true c.args.label self.engine = λ world here. sym (c.has_book.ensures world here) ∙ has in
    let is : c.in-Ok-Some.field-0 ≡ Some c.in-Ok-Some.standing = search rules in
    let ends =
    of_some c.in-Ok-Some.field-0 c.in-Ok-Some.standing _
    (λ losses. EndsWords self.drainers c.end_words.new.drainers c.args.label.number losses.quantities) is
    c.in-Ok-Some.ensures.ended in
    record {
      sound =
          after_end self.engine c.absorb_held.new.engine self.drainers c.end_words.new.drainers c.args.label
          c.in-Ok-Some.standing.quantities ends held c.absorb_held.ensures self.sound;
      labelled =
          labelled_after_end self.tag c.args.label.number self.drainers c.end_words.new.drainers
          c.in-Ok-Some.standing.quantities ends self.labelled;
    }

pub absorb_held-requires-clause-stands : goal.absorb_held-requires-clause-stands
absorb_held-requires-clause-stands g c =
    let self = c.args.self.now in some_world self.engine self.drainers self.sound
