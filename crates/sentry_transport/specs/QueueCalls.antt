-- What a call makes of a queue, for whoever doesn't know its history.
use Rattle.std.specs.Prelude.{ℕ, List, ◌∷◌, Option}
use Rattle.sentry_base.specs.declared.protocol.envelope.Envelope.{Envelope}
use Rattle.sentry_client_reports.specs.LossWords.{LossPart}
use Rattle.sentry_transport.specs.QueueHistories.{Queue, QueueCall, offer_call, StandsFor}

-- the queue is what some calls made of a new one
pub record IsMadeByCalls (queue : Queue) : Type 0 where
  pub room : ℕ
  pub first : Option LossPart
  pub history : List QueueCall
  pub stands : StandsFor room first history queue

-- whatever history the queue stood for, it stands for the history with this call
abbrev pub MakesCall : QueueCall → Queue → Queue → Type 0
MakesCall call old new =
    (room : ℕ) (first : Option LossPart) (history : List QueueCall) → StandsFor room first history old
    → StandsFor room first (call ∷ history) new

-- the envelope was offered at some moment
abbrev pub IsOffered : Envelope → Queue → Queue → Type 0
IsOffered envelope old new = (now : ℕ) × MakesCall (offer_call envelope now) old new
