-- An engine with its outbox may go to another thread.
use denote.Param.Send.{IsSend, IsSync, sendable, struct_send}
use denote.Struct.Declared.{shape}
use Rattle.std.proofs.alloc.Global.TheSendSync as Global
use Rattle.std.proofs.option.Option.TheSendSync as Option
use Rattle.sentry_plain.proofs.items.Items.TheSendSync as Items
use Rattle.sentry_base.proofs.protocol.keys.ClientKey.TheSendSync as ClientKey
use Rattle.c_base.proofs.queue.Queue.TheSendSync as Queue
use Rattle.c_records.proofs.filters.Filters.TheSendSync as Filters
use Rattle.c_engine.proofs.callbacks.NoProcessor.TheSendSync as NoProcessor
use Rattle.c_base.specs.contracts.outbox.Outbox as Outbox
use Rattle.c_records.specs.contracts.filters.Filters as FiltersOf
use Rattle.c_engine.specs.contracts.callbacks.NoProcessor as NoProcessorOf
use Rattle.c_engine.specs.contracts.outbox_engine.OutboxEngine as OutboxEngine
use Rattle.sentry_base.proofs.Crossing.{Envelope_send, Value_send}
use Rattle.sentry_engine.proofs.SentEngine.{Engine_send}

Outbox_field_send : IsSend (Outbox.the_field).row
Outbox_field_send = search (Queue.the_field_send, Queue.the_send, Items.the_send, Option.the_field_send, ClientKey.the_field_send, ClientKey.the_send, Envelope_send, Value_send, sendable) depth 60 fits 20000

OutboxEngine_field_send : IsSend (OutboxEngine.the_field).row
OutboxEngine_field_send = struct_send (shape OutboxEngine.the_type) (
  search (Global.the_field_send, Global.the_send, sendable) depth 60 fits 20000,
  (
    (Engine_send NoProcessorOf.the_row FiltersOf.the_row NoProcessor.the_send NoProcessor.the_sync Filters.the_send Filters.the_sync),
    (
      Outbox_field_send,
      tt,
    ),
  ),
)

pub OutboxEngine_send : IsSend OutboxEngine.the_row
OutboxEngine_send = search (OutboxEngine_field_send, sendable)
