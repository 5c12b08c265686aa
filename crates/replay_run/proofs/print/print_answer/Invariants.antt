use Rattle.std.proofs.Common.{◌≡◌, ◌++◌, drop}
use Rattle.std.specs.Prelude.{string_bytes, flat_map}
use Rattle.replay_print.specs.Printing.{envelope_line}
use Rattle.replay_run.proofs.print.print_answer.Given as goal

-- the envelopes that are left complete the text
abbrev pub invariant-loop-envelope : goal.invariant-loop-envelope
invariant-loop-envelope l =
    string_bytes l.text ++ flat_map envelope_line (drop l.envelope-index l.envelope-items)
    ≡ string_bytes l.initial.text ++ flat_map envelope_line l.envelope-items
