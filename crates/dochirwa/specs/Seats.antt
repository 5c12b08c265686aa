-- What a seat owns: what a box of its engine owns, if there is one; otherwise its pointer is null.
use base.Fml.{Fml, feq}
use base.Stored.{Coded}
use denote.RawPtr.{Ptr, null_ptr}
use Rattle.std.specs.Prelude.{◌≡◌, Option, Some, None}
use Rattle.std.specs.Coded.{coded_option}
use Rattle.std.specs.Box.Ownership.{box_owns}
use Rattle.std.specs.Global.{Global}
use Rattle.std.specs.contracts.impls.GlobalAllocator.TheImpl.{ghosts}
use Rattle.c_engine.specs.contracts.outbox_engine.OutboxEngine.{the_row}

abbrev pub seat_owns : Global → Ptr → Option the_row.Denot → Fml
seat_owns alloc at None = feq Ptr at null_ptr
seat_owns alloc at (Some value) = box_owns (ghosts.dealloc_token alloc) the_row at value

abbrev pub seat_coded : Coded (Option the_row.Denot)
seat_coded = coded_option the_row.coded
