use Rattle.sentry_writers.proofs.PutLemmas.{is_tried}
use Rattle.sentry_writers.proofs.spool.try_writing.Goals as goal

pub returns : goal.returns
returns g c =
    is_tried g.F.Folder.does c.remove-removed.result c.args.folder.now c.write-written.new.self c.remove-removed.new.self
    c.in_ok-written.ensures c.remove-removed.ensures
