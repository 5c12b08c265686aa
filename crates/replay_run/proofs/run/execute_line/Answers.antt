use Rattle.std.proofs.Common.{◌≡◌, ◌≢◌, ap, sym, ◌∙◌, ◌++◌, [], length, subst, Option}
use Rattle.std.specs.Prelude.{IfSome}
use Rattle.std.proofs.lemmas.Bool.{eqb-false}
use Rattle.sentry_plain.specs.Texts.{Bytes}
use Rattle.replay_run.specs.declared.command.Command.{Command}
use Rattle.replay_run.specs.Commands.{Spells}
use Rattle.replay_run.specs.Answers.{answer_text}
use Rattle.replay_run.specs.Replays.{WritesText}
use Rattle.replay_run.proofs.ReplayLemmas.{prints, executed}
use Rattle.replay_run.proofs.run.execute_line.Goals as goal

pub returns : goal.returns
returns g c =
    let some : c.args.line.now ≢ [] = λ e. eqb-false (length c.args.line.now) 0 (sym c.is_empty.ensures ∙ c.if-is_empty.false) (ap length e) in
    let spells : Spells c.args.line.now c.in-Some.command = subst (λ (found : Option Command). IfSome found (λ command. Spells c.args.line.now command)) c.in-Some.is c.in_ok-command.ensures.found in
    let written : c.as_bytes.result.now ≡ answer_text c.in_ok-answer.answer =
    c.as_bytes.ensures.value ∙ c.in_ok-print_answer.ensures ∙ ap (λ (before : Bytes). before ++ answer_text c.in_ok-answer.answer) c.clear.ensures.bytes in
    executed c.args.engine.now c.execute.new.engine (g.W.Write.contents c.args.writer.now) (g.W.Write.contents c.write_text.new.writer) c.args.number c.args.line.now (answer_text c.in_ok-answer.answer) c.write_text.result
    (λ world stands.
    let done = c.in_ok-answer.ensures world stands in
    (done.0, prints world done.0 c.args.number c.args.line.now c.in-Some.command c.in_ok-answer.answer some spells done.1, done.2))
    (subst (λ (text : Bytes). WritesText (g.W.Write.contents c.args.writer.now) (g.W.Write.contents c.write_text.new.writer) text c.write_text.result) written c.write_text.ensures)
