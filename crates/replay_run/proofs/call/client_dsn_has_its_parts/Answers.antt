use Rattle.replay_run.proofs.DsnLemmas.{dsn_of_text-client}
use Rattle.replay_run.proofs.call.client_dsn_has_its_parts.Goals as goal

pub returns : goal.returns
returns c = dsn_of_text-client
