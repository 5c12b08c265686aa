-- What is printed of answers.
use Rattle.std.specs.Prelude.{◌++◌, Ok, Err, [], ◌∷◌, codes, flat_map}
use Rattle.std.specs.Fmt.{decimal}
use Rattle.sentry_plain.specs.Texts.{Bytes}
use Rattle.sentry_base.specs.Refusals.{refusal_number}
use Rattle.replay_print.specs.Printing.{envelope_line}
use Rattle.replay_run.specs.Engines.{ReplayAnswer}

-- one line for each envelope that is to be sent, or one for the refusal
abbrev pub answer_text : ReplayAnswer → Bytes
answer_text (Ok out) = flat_map envelope_line out.sent
answer_text (Err refusal) = codes "refused E" ++ decimal (refusal_number refusal) ++ 10 ∷ []
