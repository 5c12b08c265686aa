use Rattle.std.proofs.lemmas.Result.{err_from_is_err_and}
use Rattle.sentry_framing.proofs.SendingLemmas.{more_written}
use Rattle.replay_run.proofs.WriteLemmas.{failed}
use Rattle.replay_run.proofs.write.write_text.Goals as goal

pub returns-in_err-count : goal.returns-in_err-count
returns-in_err-count g c =
    let p = err_from_is_err_and c.from_residual.result c.from_residual.ensures.1 in
    rw (p.1, p.2)
    (failed (g.W.Write.contents c.args.writer.now) (g.W.Write.contents c.loop.writer) (g.W.Write.contents c.write_some.new.writer)
    c.args.text.now c.loop.rest.now c.in_err-count.field-0.0 c.loop.invariant c.in_err-count.ensures.fault)

pub loop-preserved : goal.loop-preserved
loop-preserved g c =
    more_written (g.W.Write.contents c.args.writer.now) (g.W.Write.contents c.loop.writer) (g.W.Write.contents c.write_some.new.writer)
    c.args.text.now c.loop.rest.now c.in_ok-count.count c.loop.invariant c.in_ok-count.ensures.written
