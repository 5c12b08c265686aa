use Rattle.std.proofs.Common.{◌≡◌, ◌∙◌, sym, subst}
use Rattle.std.specs.Prelude.{Option, Some, None, Result, Ok, Err, IfOk, IfSome, IfNone}
use Rattle.std.specs.Str.{IsUtf8}
use Rattle.std.proofs.lemmas.Option.{none-some}
use Rattle.sentry_plain.specs.Texts.{Bytes}
use Rattle.replay_run.specs.declared.command.Command.{Command}
use Rattle.replay_run.specs.Reading.{command_of}
use Rattle.replay_run.specs.Commands.{Spells}
use Rattle.replay_run.proofs.CommandLemmas.{command-is, command_form}
use Rattle.replay_run.proofs.command.parse_command.Goals as goal

found_spelled : {E : Type 0} (r : Result (Option Command) E) (line : Bytes) → IsUtf8 line → IfOk r (λ found. found ≡ command_of line) → IfOk r (λ found. IfSome found (λ command. Spells line command))
found_spelled (Ok None) line utf8 h = tt
found_spelled (Ok (Some command)) line utf8 h = record { utf8 = utf8; form = command_form line command (sym h) }
found_spelled (Err e) line utf8 h = tt

none_spelled : {E : Type 0} (r : Result (Option Command) E) (line : Bytes) → IfOk r (λ found. found ≡ command_of line) → IfOk r (λ found. IfNone found ((command : Command) → Spells line command → ⊥))
none_spelled (Ok None) line h = λ command spells. none-some command (h ∙ command-is line command spells.form)
none_spelled (Ok (Some command)) line h = tt
none_spelled (Err e) line h = tt

pub returns-in-Ok-clause-found : goal.returns-in-Ok-clause-found
returns-in-Ok-clause-found c =
    found_spelled c.parse_text.result c.args.line.now c.in-Ok.ensures.cases.1 (subst (λ (t : Bytes). IfOk c.parse_text.result (λ found. found ≡ command_of t)) c.in-Ok.ensures.cases.0 c.parse_text.ensures)

pub returns-in-Ok-clause-none : goal.returns-in-Ok-clause-none
returns-in-Ok-clause-none c =
    none_spelled c.parse_text.result c.args.line.now (subst (λ (t : Bytes). IfOk c.parse_text.result (λ found. found ≡ command_of t)) c.in-Ok.ensures.cases.0 c.parse_text.ensures)
