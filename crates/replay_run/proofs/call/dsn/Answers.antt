use Rattle.replay_run.proofs.DsnLemmas.{client_dsn-read}
use Rattle.replay_run.proofs.call.dsn.Goals as goal

pub returns : goal.returns
returns c = rw c.or.ensures (client_dsn-read c.parse.result _ c.parse.ensures)
