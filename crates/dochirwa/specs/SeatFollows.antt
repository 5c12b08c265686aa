-- What a seat is once a borrow of its engine ends.
use base.Fml.{Fml}
use denote.Ref.{MutBor}
use denote.Follow.{follows}
use Rattle.std.specs.Prelude.{Some}
use Rattle.dochirwa.specs.declared.seat.Seat.{Seat}
use Rattle.c_engine.specs.declared.outbox_engine.OutboxEngine.{OutboxEngine}
use Rattle.dochirwa.specs.contracts.seat.Seat.{the_row as seat}
use Rattle.c_engine.specs.contracts.outbox_engine.OutboxEngine.{the_row as engine}

-- the seat once its engine has this value
abbrev pub with_engine : Seat → OutboxEngine → Seat
with_engine s w = record { at = s.at; alloc = s.alloc; engine = Some w }

-- once the borrow r ends, the seat behind b holds the last engine written through r
abbrev pub seat_follows : MutBor Seat → MutBor OutboxEngine → Fml
seat_follows b r = follows seat engine b.ghost_name r.ghost_name (with_engine b.now)
