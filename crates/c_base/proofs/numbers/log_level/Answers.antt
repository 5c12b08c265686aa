use Rattle.std.proofs.Common.{refl}
use Rattle.c_base.proofs.numbers.log_level.Goals as goal

pub returns-in-0-clause-level : goal.returns-in-0-clause-level
returns-in-0-clause-level c = rw c.in-0.is refl

pub returns-in-1-clause-level : goal.returns-in-1-clause-level
returns-in-1-clause-level c = rw c.in-1.is refl

pub returns-in-2-clause-level : goal.returns-in-2-clause-level
returns-in-2-clause-level c = rw c.in-2.is refl

pub returns-in-3-clause-level : goal.returns-in-3-clause-level
returns-in-3-clause-level c = rw c.in-3.is refl

pub returns-in-4-clause-level : goal.returns-in-4-clause-level
returns-in-4-clause-level c = rw c.in-4.is refl

pub returns-in-5-clause-level : goal.returns-in-5-clause-level
returns-in-5-clause-level c = rw c.in-5.is refl
