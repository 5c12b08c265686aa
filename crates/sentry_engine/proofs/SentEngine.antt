-- An engine may go to another thread, where the processors and the callbacks may, and may be read by several threads.
use denote.RattleType.{RattleType}
use denote.Param.Send.{IsSend, IsSync, sendable, struct_send}
use denote.Struct.Declared.{shape}
use Rattle.std.proofs.option.Option.TheSendSync as Option
use Rattle.std.proofs.alloc.Global.TheSendSync as Global
use Rattle.sentry_plain.proofs.shared.Shared.TheSendSync as Shared
use Rattle.sentry_plain.proofs.table.Table.TheSendSync as Table
use Rattle.sentry_plain.proofs.text_map.TextMap.TheSendSync as TextMap
use Rattle.sentry_base.proofs.protocol.keys.Label.TheSendSync as Label
use Rattle.sentry_base.proofs.protocol.session.SessionAttributes.TheSendSync as SessionAttributes
use Rattle.sentry_options.proofs.clientoptions.ClientOptions.TheSendSync as ClientOptions
use Rattle.sentry_client_reports.proofs.client_reports.book.LossBook.TheSendSync as LossBook
use Rattle.sentry_state.proofs.session_table.SessionTable.TheSendSync as SessionTable
use Rattle.sentry_state.proofs.state.NextNumbers.TheSendSync as NextNumbers
use Rattle.sentry_plain.specs.contracts.shared.Shared as SharedOf
use Rattle.sentry_plain.specs.contracts.text_map.TextMap as TextMapOf
use Rattle.sentry_base.specs.contracts.protocol.log.LogAttribute as LogAttribute
use Rattle.sentry_base.specs.contracts.protocol.session.SessionAttributes as AttributesOfSessions
use Rattle.sentry_state.specs.contracts.state.ClientState as ClientState
use Rattle.sentry_state.specs.contracts.state.State as State
use Rattle.sentry_engine.specs.contracts.engine.Engine as Engine
use Rattle.sentry_base.proofs.Crossing.{LogAttribute_send, LogAttribute_sync, Sdk_send}
use Rattle.sentry_engine.proofs.SentRecords.{Queues_field_send, SpanTable_field_send}
use Rattle.sentry_engine.proofs.SentHubs.{HubTable_send}

SessionAttributes_send : IsSend (SharedOf.the_row AttributesOfSessions.the_row)
SessionAttributes_send = search (Shared.the_send, SessionAttributes.the_send, SessionAttributes.the_sync, sendable) depth 60 fits 20000

LogAttributes_send : IsSend (TextMapOf.the_row LogAttribute.the_row)
LogAttributes_send = search (TextMap.the_send, LogAttribute_send, LogAttribute_sync, sendable) depth 60 fits 20000

module _ (C : RattleType) (cs : IsSend C) (cy : IsSync C) where
  pub Client_field_send : IsSend (ClientState.the_field C).row
  Client_field_send = search (Shared.the_send, ClientOptions.the_send, ClientOptions.the_sync, Label.the_field_send, Sdk_send, LogAttributes_send, Option.the_field_send, SessionAttributes_send, Queues_field_send, sendable) depth 60 fits 20000

  pub Client_send : IsSend (ClientState.the_row C)
  Client_send = search (Client_field_send, sendable)

module _ (P C : RattleType) (ps : IsSend P) (py : IsSync P) (cs : IsSend C) (cy : IsSync C) where
  pub State_field_send : IsSend (State.the_field P C).row
  State_field_send = struct_send (shape (State.the_type P C)) (
    search sendable,
    (
      search (NextNumbers.the_field_send, sendable) depth 60 fits 20000,
      (
        search (Table.the_send, (Client_send C cs cy), sendable) depth 60 fits 20000,
        (
          (HubTable_send P ps py),
          (
            search (SessionTable.the_send, sendable) depth 60 fits 20000,
            (
              search (Table.the_send, LossBook.the_send, sendable) depth 60 fits 20000,
              (
                search (SpanTable_field_send, sendable) depth 60 fits 20000,
                (
                  search (Global.the_field_send, sendable) depth 60 fits 20000,
                  tt,
                ),
              ),
            ),
          ),
        ),
      ),
    ),
  )

  pub State_send : IsSend (State.the_row P C)
  State_send = search (State_field_send, sendable)

  pub Engine_send : IsSend (Engine.the_row P C)
  Engine_send = search (State_field_send, State_send, sendable) depth 60 fits 20000
