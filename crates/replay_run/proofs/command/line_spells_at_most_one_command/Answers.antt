use Rattle.std.proofs.Common.{sym, ◌∙◌}
use Rattle.std.proofs.lemmas.Option.{same_Some}
use Rattle.replay_run.proofs.CommandLemmas.{command-is}
use Rattle.replay_run.proofs.command.line_spells_at_most_one_command.Goals as goal

pub returns : goal.returns
returns c = λ line a b first second. same_Some a b (sym (command-is line a first.form) ∙ command-is line b second.form)
