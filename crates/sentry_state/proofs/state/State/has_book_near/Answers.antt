use Rattle.std.proofs.Common.{rules}
use Rattle.sentry_state.proofs.Keeping.{has_book_in_world}
use Rattle.sentry_state.proofs.state.State.has_book_near.Goals as goal

pub returns : goal.returns
returns g c = λ world s.
    let held = has_book_in_world c.args.self.now world s c.args.label.number in
    let tag = s.tag in
    search rules
