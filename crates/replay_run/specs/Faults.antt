-- The exit statuses of the program.
use Rattle.std.specs.Prelude.{ℕ, Result}
use Rattle.replay_run.specs.declared.fault.ReplayFault.{ReplayFault}
use Rattle.replay_run.specs.declared.fault.ReplayFault.TheVariants.{BadCommand, OutOfMemory, InputOutput}

-- how a run ends
abbrev pub ReplayEnd : Type 0
ReplayEnd = Result (Unit {0}) ReplayFault

abbrev pub status_of : ReplayFault → ℕ
status_of (BadCommand number) = 2
status_of OutOfMemory = 4
status_of InputOutput = 5
