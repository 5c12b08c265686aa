-- A seat may go to another thread, since a box of its engine may; what is null owns nothing.
use mir.Raw.{raw}
use base.Shift.{Keyless}
use denote.Memory.{lone}
use denote.RawPtr.{Ptr}
use denote.Struct.Struct.{exits_of}
use denote.Struct.Owning.{fields, shape, to}
use denote.Param.Send.{IsSend, AllSend, owning_send, struct_send, sendable}
use Rattle.std.specs.Prelude.{Option, Some, None}
use Rattle.std.specs.Global.{Global}
use Rattle.std.proofs.Crossing as heap
use Rattle.std.proofs.alloc.Global.TheSendSync as handle
use Rattle.std_alloc.proofs.SendSync.{quiet, lies}
use Rattle.c_engine.specs.contracts.outbox_engine.OutboxEngine as OutboxEngine
use Rattle.dochirwa.specs.Seats.{seat_owns}
use Rattle.dochirwa.specs.contracts.seat.Seat.{the_row, the_type}
use Rattle.dochirwa.proofs.Sent.{OutboxEngine_send}

owned : (alloc : Global) (at : Ptr) (held : Option OutboxEngine.the_row.Denot) → Keyless (seat_owns alloc at held)
owned alloc at None = tt
owned alloc at (Some value) =
    (lies OutboxEngine.the_row OutboxEngine_send at value, heap.frees.frees alloc (raw (lone OutboxEngine.the_row.mir)) at)

pub send : IsSend the_row
send =
    let all : AllSend (fields the_type) = (search sendable, (handle.the_field_send, tt)) in
    owning_send the_type all (λ d. owned d.alloc d.at d.engine)
    (λ k. quiet (to the_type) (exits_of k (fields the_type)) ((struct_send (shape the_type) all).leaving k))
