-- A queue may go to another thread where its clock may.
use denote.RattleType.{RattleType}
use denote.Param.Send.{IsSend, sendable}
use Rattle.std.proofs.Crossing as heap
use Rattle.std.proofs.option.Option.TheSendSync as Option
use Rattle.sentry_base.proofs.Crossing.{Envelope_send}
use Rattle.sentry_client_reports.proofs.client_reports.recorder.Recorder.TheSendSync as Recorder
use Rattle.sentry_transport.proofs.queueing.limits.Limits.TheSendSync as Limits
use Rattle.sentry_transport.specs.contracts.queueing.queue_core.QueueCore as QueueCore
use Rattle.sentry_transport.specs.contracts.timed_queue.TimedQueue as TimedQueue

QueueCore_send : IsSend QueueCore.the_row
QueueCore_send = search (Envelope_send, Limits.the_field_send, Recorder.the_send, Option.the_field_send, heap.crosses, sendable) depth 60 fits 20000

pub TimedQueue_field_send : (K : RattleType) → IsSend K → IsSend (TimedQueue.the_field K).row
TimedQueue_field_send K k = search (QueueCore_send, sendable) depth 60 fits 20000
