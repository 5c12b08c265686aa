-- Hubs may go to another thread, where the processors of their scopes may, and may be read by several threads.
use denote.RattleType.{RattleType}
use denote.Param.Send.{IsSend, IsSync, sendable, struct_send}
use denote.Struct.Declared.{shape}
use Rattle.std.proofs.Crossing as heap
use Rattle.std.proofs.option.Option.TheSendSync as Option
use Rattle.std.proofs.alloc.Global.TheSendSync as Global
use Rattle.sentry_plain.proofs.text.Text.TheSendSync as Text
use Rattle.sentry_plain.proofs.items.Items.TheSendSync as Items
use Rattle.sentry_plain.proofs.shared.Shared.TheSendSync as Shared
use Rattle.sentry_plain.proofs.table.Table.TheSendSync as Table
use Rattle.sentry_plain.proofs.text_map.TextMap.TheSendSync as TextMap
use Rattle.sentry_base.proofs.protocol.attachment.Attachment.TheSendSync as Attachment
use Rattle.sentry_base.proofs.protocol.ids.TraceId.TheSendSync as TraceId
use Rattle.sentry_base.proofs.protocol.ids.SpanId.TheSendSync as SpanId
use Rattle.sentry_base.proofs.protocol.keys.ClientKey.TheSendSync as ClientKey
use Rattle.sentry_base.proofs.protocol.keys.SessionKey.TheSendSync as SessionKey
use Rattle.sentry_base.proofs.protocol.keys.TransactionOrSpanKey.TheSendSync as TransactionOrSpanKey
use Rattle.sentry_base.proofs.protocol.level.Level.TheSendSync as Level
use Rattle.sentry_scope.proofs.scope.trail.Trail.TheSendSync as Trail
use Rattle.sentry_scope.specs.contracts.scope.Scope as Scope
use Rattle.sentry_scope.specs.contracts.scope.stack.StackLayer as StackLayer
use Rattle.sentry_scope.specs.contracts.scope.stack.Stack as Stack
use Rattle.sentry_hub_table.specs.contracts.hub.HubState as HubState
use Rattle.sentry_hub_table.specs.contracts.hub_table.HubTable as HubTable
use Rattle.sentry_base.proofs.Crossing.{Breadcrumb_send, Breadcrumb_sync, Context_send, Context_sync, User_send, User_sync, ValueMap_send, ValueMap_sync}

module _ (P : RattleType) (ps : IsSend P) (py : IsSync P) where
  pub Scope_field_send : IsSend (Scope.the_field P).row
  Scope_field_send = struct_send (shape (Scope.the_type P)) (
    search (Option.the_field_send, Level.the_send, sendable) depth 60 fits 20000,
    (
      search (Option.the_field_send, Shared.the_send, Items.the_send, Text.the_send, Items.the_sync, Text.the_sync, sendable) depth 60 fits 20000,
      (
        search (Option.the_field_send, Text.the_send, sendable) depth 60 fits 20000,
        (
          search (Option.the_field_send, Shared.the_send, User_send, User_sync, sendable) depth 60 fits 20000,
          (
            search (Global.the_field_send, Option.the_field_send, Shared.the_send, TextMap.the_send, Text.the_send, TextMap.the_sync, Text.the_sync, sendable) depth 60 fits 20000,
            (
              search (Global.the_field_send, Option.the_field_send, Shared.the_send, ValueMap_send, ValueMap_sync, sendable) depth 60 fits 20000,
              (
                search (Global.the_field_send, Option.the_field_send, Shared.the_send, TextMap.the_send, Context_send, TextMap.the_sync, Context_sync, sendable) depth 60 fits 20000,
                (
                  search (Global.the_field_send, Option.the_field_send, Shared.the_send, Trail.the_send, Breadcrumb_send, Trail.the_sync, Breadcrumb_sync, sendable) depth 60 fits 20000,
                  (
                    search (Global.the_field_send, Option.the_field_send, Shared.the_send, Items.the_send, Attachment.the_send, Items.the_sync, Attachment.the_sync, sendable) depth 60 fits 20000,
                    (
                      search (TraceId.the_field_send, sendable) depth 60 fits 20000,
                      (
                        search (SpanId.the_field_send, sendable) depth 60 fits 20000,
                        (
                          search (Option.the_field_send, TransactionOrSpanKey.the_send, sendable) depth 60 fits 20000,
                          (
                            search (Global.the_field_send, Option.the_field_send, Shared.the_send, Shared.the_sync, Items.the_send, Items.the_sync, sendable) depth 60 fits 20000,
                            tt,
                          ),
                        ),
                      ),
                    ),
                  ),
                ),
              ),
            ),
          ),
        ),
      ),
    ),
  )

  pub Scope_send : IsSend (Scope.the_row P)
  Scope_send = search (Scope_field_send, sendable)

  pub StackLayer_field_send : IsSend (StackLayer.the_field P).row
  StackLayer_field_send = search (Option.the_field_send, ClientKey.the_send, Scope_field_send, SessionKey.the_send, sendable) depth 60 fits 20000

  pub StackLayer_send : IsSend (StackLayer.the_row P)
  StackLayer_send = search (StackLayer_field_send, sendable)

  pub Stack_field_send : IsSend (Stack.the_field P).row
  Stack_field_send = search (StackLayer_field_send, StackLayer_send, Items.the_send, sendable) depth 60 fits 20000

  pub Stack_send : IsSend (Stack.the_row P)
  Stack_send = search (Stack_field_send, sendable)

  pub Hub_field_send : IsSend (HubState.the_field P).row
  Hub_field_send = search (Stack_field_send, Option.the_field_send, sendable) depth 60 fits 20000

  pub Hub_send : IsSend (HubState.the_row P)
  Hub_send = search (Hub_field_send, sendable)

  pub HubTable_send : IsSend (HubTable.the_row P)
  HubTable_send = search (Table.the_send, Hub_send, heap.crosses, sendable) depth 60 fits 20000
