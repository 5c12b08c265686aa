-- What lies under the lock may go to another thread, where the processors, the callbacks and the transports may, and may
-- be read by several threads.
use denote.RattleType.{RattleType}
use denote.Param.Send.{IsSend, IsSync, sendable, struct_send}
use denote.Struct.Declared.{shape}
use Rattle.std.proofs.option.Option.TheSendSync as Option
use Rattle.std.proofs.alloc.Global.TheSendSync as Global
use Rattle.sentry_plain.proofs.shared.Shared.TheSendSync as Shared
use Rattle.sentry_plain.proofs.table.Table.TheSendSync as Table
use Rattle.sentry_base.proofs.protocol.losses.Losses.TheSendSync as Losses
use Rattle.sentry_client_reports.proofs.client_reports.counted.CountedDrainer.TheSendSync as CountedDrainer
use Rattle.sentry_lock.specs.contracts.handed.Routes as Routes
use Rattle.sentry_lock.specs.contracts.locked.Core as Core
use Rattle.sentry_engine.proofs.SentEngine.{Engine_send}

module _ (T : RattleType) (ts : IsSend T) (ty : IsSync T) where
  Routes_field_send : IsSend (Routes.the_field T).row
  Routes_field_send = search (Shared.the_send, Table.the_send, Shared.the_sync, Table.the_sync, Option.the_field_send, Option.the_send, sendable) depth 60 fits 20000

  Routes_send : IsSend (Routes.the_row T)
  Routes_send = search (Routes_field_send, sendable)

module _ (P C T : RattleType) (ps : IsSend P) (py : IsSync P) (cs : IsSend C) (cy : IsSync C) (ts : IsSend T) (ty : IsSync T) where
  pub Core_field_send : IsSend (Core.the_field P C T).row
  Core_field_send = struct_send (shape (Core.the_type P C T)) (
    (Engine_send P C ps py cs cy),
    (
      search sendable,
      (
        search (Table.the_send, Option.the_field_send, Option.the_send, CountedDrainer.the_send, sendable) depth 60 fits 20000,
        (
          (Routes_field_send T ts ty),
          (
            search (Losses.the_field_send, Losses.the_send, sendable) depth 60 fits 20000,
            (
              search sendable,
              (
                search (Global.the_field_send, Global.the_send, sendable) depth 60 fits 20000,
                tt,
              ),
            ),
          ),
        ),
      ),
    ),
  )

  pub Core_send : IsSend (Core.the_row P C T)
  Core_send = search (Core_field_send, sendable)
