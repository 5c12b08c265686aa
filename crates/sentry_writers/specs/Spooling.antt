-- What becomes of a folder as the text of an envelope is spooled.
use Rattle.std.specs.Prelude.{◌≡◌, Bool, true, false, ◌⊎◌, Option, Some, None}
use Rattle.sentry_client_reports.specs.declared.client_reports.reason.TransportLossReason.{TransportLossReason}
use Rattle.sentry_client_reports.specs.declared.client_reports.reason.TransportLossReason.TheVariants.{SendError, InternalError, NetworkError, RatelimitBackoff, QueueOverflow}
use Rattle.sentry_plain.specs.Texts.{Bytes}
use Rattle.sentry_writers.specs.declared.stamps.Stamp.{Stamp}
use Rattle.sentry_writers.specs.Folders.{FolderCall, PutsFile}
use Rattle.sentry_writers.specs.Stamps.{file_name, partial_name}

module _ {S : Type 0} (does : S → FolderCall → S → Type 0) (stamp : Stamp) where
  -- the file of this stamp was put into the folder; or it was not, and perhaps not even tried
  abbrev pub PutsNext : Bytes → Bool → S → S → Type 0
  PutsNext text true first last = PutsFile (partial_name stamp) (file_name stamp) text does true first last
  PutsNext text false first last =
      (last ≡ first) ⊎ PutsFile (partial_name stamp) (file_name stamp) text does false first last

  -- the text was put into the folder, or was lost for a reason: of one for which there was no room, nothing was asked
  abbrev pub Spools : Bytes → Option TransportLossReason → S → S → Type 0
  Spools text None first last = PutsNext text true first last
  Spools text (Some InternalError) first last = PutsNext text false first last
  Spools text (Some QueueOverflow) first last = last ≡ first
  Spools text (Some SendError) first last = ⊥
  Spools text (Some NetworkError) first last = ⊥
  Spools text (Some RatelimitBackoff) first last = ⊥
