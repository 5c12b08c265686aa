use Rattle.sentry_lock.proofs.CallLists.{lock_makes_each, lock_refuses_one}
use Rattle.sentry_lock.proofs.shared_core.SharedCore.all_called.Goals as goal

pub returns-clause-done : goal.returns-clause-done
returns-clause-done g c =
    lock_makes_each _ g.L.Processor.EventCallback.gives g.L.Callbacks.Callbacks.meanings c.args.calls.items
    c.behind-lock.inside.core c.apply_all.new.self c.apply_all.result c.apply_all.ensures.done

pub returns-clause-refused : goal.returns-clause-refused
returns-clause-refused g c =
    lock_refuses_one _ g.L.Processor.EventCallback.gives g.L.Callbacks.Callbacks.meanings c.args.calls.items
    c.behind-lock.inside.core c.apply_all.result c.apply_all.ensures.refused
