use Rattle.replay_run.proofs.ReplayLemmas.{Reaches, line_number}
use Rattle.replay_run.proofs.run.run_replay.Given as goal

-- what is printed for the lines that are left completes the run
abbrev pub invariant-loop-index : goal.invariant-loop-index
invariant-loop-index g l = Reaches (g.R.Read.remaining l.fn.reader) (g.R.Read.remaining l.reader) (g.W.Write.contents l.fn.writer) (g.W.Write.contents l.writer) l.engine (line_number l.index)
