use Rattle.replay_run.proofs.ReadingLemmas.{cut_given}
use Rattle.replay_run.proofs.word.cut.Goals as goal

pub returns : goal.returns
returns c = cut_given c.args.text.now c.split_once.result c.split_once.ensures.cases
