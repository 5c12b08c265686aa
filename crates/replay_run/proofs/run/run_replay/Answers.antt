use Rattle.std.proofs.Common.{◌+◌, ℕ, Bool, subst, Ok, Err}
use Rattle.std.proofs.lemmas.Result.{err_from_is_err_and}
use Rattle.sentry_plain.specs.Texts.{Bytes}
use Rattle.replay_run.specs.Lines.{TakesLine}
use Rattle.replay_run.specs.Replays.{ExecutesLine}
use Rattle.replay_run.proofs.ReplayLemmas.{Reaches, line_number, numbered, line_number-next, goes_on, ends_well, ends_unread, ends_undone, ends_uncounted}
use Rattle.replay_run.proofs.run.run_replay.Goals as goal

pub returns-in_err-next_line : goal.returns-in_err-next_line
returns-in_err-next_line g c =
    let p = err_from_is_err_and c.from_residual.result c.from_residual.ensures.1 in
    rw (p.1, p.2)
    (ends_unread (g.R.Read.remaining c.args.reader.now) (g.R.Read.remaining c.loop-index.reader) (g.R.Read.remaining c.next_line.new.reader) (g.W.Write.contents c.args.writer.now) (g.W.Write.contents c.loop-index.writer)
    c.loop-index.engine (line_number c.loop-index.index) c.in_err-next_line.field-0.0 c.loop-index.invariant c.in_err-next_line.ensures.of_one_line c.in_err-next_line.ensures.fault)

pub returns-then-not-branch : goal.returns-then-not-branch
returns-then-not-branch g c =
    ends_well (g.R.Read.remaining c.args.reader.now) (g.R.Read.remaining c.loop-index.reader) (g.R.Read.remaining c.next_line.new.reader) (g.W.Write.contents c.args.writer.now) (g.W.Write.contents c.loop-index.writer)
    c.loop-index.engine (line_number c.loop-index.index) c.next_line.new.line.items c.loop-index.invariant
    (subst (λ (found : Bool). TakesLine (g.R.Read.remaining c.loop-index.reader) (g.R.Read.remaining c.next_line.new.reader) found c.next_line.new.line.items) c.if-not-branch.true c.in_ok-next_line.ensures.taken)

pub returns-in_err-execute_line : goal.returns-in_err-execute_line
returns-in_err-execute_line g c =
    let p = err_from_is_err_and c.from_residual-in_err-execute_line.result c.from_residual-in_err-execute_line.ensures.1 in
    rw (p.1, p.2)
    (ends_undone (g.R.Read.remaining c.args.reader.now) (g.R.Read.remaining c.loop-index.reader) (g.R.Read.remaining c.next_line.new.reader)
    (g.W.Write.contents c.args.writer.now) (g.W.Write.contents c.loop-index.writer) (g.W.Write.contents c.execute_line.new.writer)
    c.loop-index.engine c.execute_line.new.engine (line_number c.loop-index.index) c.next_line.new.line.items c.in_err-execute_line.field-0.0 c.loop-index.invariant
    (subst (λ (found : Bool). TakesLine (g.R.Read.remaining c.loop-index.reader) (g.R.Read.remaining c.next_line.new.reader) found c.next_line.new.line.items) c.if-not-branch.false c.in_ok-next_line.ensures.taken)
    c.in_ok-next_line.ensures.of_one_line
    (subst (λ (number : ℕ). ExecutesLine c.loop-index.engine c.execute_line.new.engine (g.W.Write.contents c.loop-index.writer) (g.W.Write.contents c.execute_line.new.writer) number c.next_line.new.line.items (Err c.in_err-execute_line.field-0.0))
    (numbered c.loop-index.index c.loop-index-test.true)
    (subst (λ (line : Bytes). ExecutesLine c.loop-index.engine c.execute_line.new.engine (g.W.Write.contents c.loop-index.writer) (g.W.Write.contents c.execute_line.new.writer) (c.loop-index.index + 1) line (Err c.in_err-execute_line.field-0.0))
    c.as_slice.ensures.value
    c.in_err-execute_line.ensures)))

pub loop-index-preserved : goal.loop-index-preserved
loop-index-preserved g c =
    subst (λ (number : ℕ). Reaches (g.R.Read.remaining c.args.reader.now) (g.R.Read.remaining c.next_line.new.reader) (g.W.Write.contents c.args.writer.now) (g.W.Write.contents c.execute_line.new.writer) c.execute_line.new.engine number)
    (line_number-next c.loop-index.index)
    (goes_on (g.R.Read.remaining c.args.reader.now) (g.R.Read.remaining c.loop-index.reader) (g.R.Read.remaining c.next_line.new.reader)
    (g.W.Write.contents c.args.writer.now) (g.W.Write.contents c.loop-index.writer) (g.W.Write.contents c.execute_line.new.writer)
    c.loop-index.engine c.execute_line.new.engine (line_number c.loop-index.index) c.next_line.new.line.items c.loop-index.invariant
    (subst (λ (found : Bool). TakesLine (g.R.Read.remaining c.loop-index.reader) (g.R.Read.remaining c.next_line.new.reader) found c.next_line.new.line.items) c.if-not-branch.false c.in_ok-next_line.ensures.taken)
    (subst (λ (number : ℕ). ExecutesLine c.loop-index.engine c.execute_line.new.engine (g.W.Write.contents c.loop-index.writer) (g.W.Write.contents c.execute_line.new.writer) number c.next_line.new.line.items (Ok tt))
    (numbered c.loop-index.index c.loop-index-test.true)
    (subst (λ (line : Bytes). ExecutesLine c.loop-index.engine c.execute_line.new.engine (g.W.Write.contents c.loop-index.writer) (g.W.Write.contents c.execute_line.new.writer) (c.loop-index.index + 1) line (Ok tt))
    c.as_slice.ensures.value
    c.in_ok-execute_line.ensures)))

pub returns : goal.returns
returns g c =
    ends_uncounted (g.R.Read.remaining c.args.reader.now) (g.R.Read.remaining c.loop-index.reader) (g.W.Write.contents c.args.writer.now) (g.W.Write.contents c.loop-index.writer)
    c.loop-index.engine (line_number c.loop-index.index) c.loop-index.invariant
