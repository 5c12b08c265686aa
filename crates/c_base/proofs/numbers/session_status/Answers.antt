use Rattle.std.proofs.Common.{refl}
use Rattle.c_base.proofs.numbers.session_status.Goals as goal

pub returns-in-0-clause-status : goal.returns-in-0-clause-status
returns-in-0-clause-status c = rw c.in-0.is refl

pub returns-in-1-clause-status : goal.returns-in-1-clause-status
returns-in-1-clause-status c = rw c.in-1.is refl

pub returns-in-2-clause-status : goal.returns-in-2-clause-status
returns-in-2-clause-status c = rw c.in-2.is refl

pub returns-in-3-clause-status : goal.returns-in-3-clause-status
returns-in-3-clause-status c = rw c.in-3.is refl
