use Rattle.sentry_engine.proofs.RenameLemmas.{all_renamed_in_world}
use Rattle.sentry_engine.proofs.engine.names.rename_all.Goals as goal

pub returns : goal.returns
returns g c = λ world s.
    all_renamed_in_world c.args.renames c.args.state.now world s c.rename_transactions.new.spans c.rename_transactions.ensures
