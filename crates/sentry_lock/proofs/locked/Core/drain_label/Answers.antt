use Rattle.std.proofs.Common.{◌≡◌, ◌∙◌, sym, subst, true, inl, rules}
use Rattle.sentry_base.specs.Losses.{no_losses}
use Rattle.sentry_client_reports.specs.LossWords.{given_if}
use Rattle.sentry_lock.specs.Locked.{IsHeld}
use Rattle.sentry_lock.specs.Words.{DrainsOne}
use Rattle.sentry_lock.proofs.Labels.{labelled_after_drain}
use Rattle.sentry_lock.proofs.Sound.{absorbs_nothing, after_drain, quiet_words, some_world}
use Rattle.sentry_lock.proofs.locked.Core.drain_label.Goals as goal

pub invariant_of-self-then-up : goal.invariant_of-self-then-up
invariant_of-self-then-up g c =
    let self = c.args.self.now in
    let label = c.args.label in
    let drained = c.drain_words_into.new.drainers in
    let lost = c.drain_words_into.new.losses.quantities in
    let has : c.has_book_near.result ≡ true = search rules in
    let held : IsHeld true label self.engine = λ world here. sym (c.has_book_near.ensures world here) ∙ has in
    let one = subst (λ up. DrainsOne self.drainers drained label.number (given_if up lost)) c.if-up.true c.in-Some.ensures in
    record {
      sound = after_drain self.engine c.absorb_held.new.engine self.drainers drained label lost one held c.absorb_held.ensures self.sound;
      labelled = labelled_after_drain self.tag label.number self.drainers drained lost one self.labelled;
    }

pub invariant_of-self-else-up : goal.invariant_of-self-else-up
invariant_of-self-else-up g c =
    let self = c.args.self.now in
    let label = c.args.label in
    let drained = c.drain_words_into.new.drainers in
    let lost = c.drain_words_into.new.losses.quantities in
    let has : c.has_book_near.result ≡ true = search rules in
    let held : IsHeld true label self.engine = λ world here. sym (c.has_book_near.ensures world here) ∙ has in
    let one = subst (λ up. DrainsOne self.drainers drained label.number (given_if up lost)) c.if-up.false c.in-Some.ensures in
    record {
      sound = after_drain self.engine self.engine self.drainers drained label no_losses one held
          (absorbs_nothing self.engine label no_losses quiet_words held) self.sound;
      labelled = labelled_after_drain self.tag label.number self.drainers drained no_losses one self.labelled;
    }

-- nothing was lost
pub returns-else-up-clause-drained : goal.returns-else-up-clause-drained
returns-else-up-clause-drained g c =
    let self = c.args.self.now in
    let label = c.args.label in
    let drained = c.drain_words_into.new.drainers in
    let lost = c.drain_words_into.new.losses.quantities in
    let has : c.has_book_near.result ≡ true = search rules in
    let held : IsHeld true label self.engine = λ world here. sym (c.has_book_near.ensures world here) ∙ has in
    let one = subst (λ up. DrainsOne self.drainers drained label.number (given_if up lost)) c.if-up.false c.in-Some.ensures in
    inl (held, (no_losses, (one, absorbs_nothing self.engine label no_losses quiet_words held)))

pub absorb_held-requires-clause-stands : goal.absorb_held-requires-clause-stands
absorb_held-requires-clause-stands g c =
    let self = c.args.self.now in some_world self.engine self.drainers self.sound
