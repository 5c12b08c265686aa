-- What the text that is written so far tells of the end of a run.
use Rattle.std.proofs.Common.{◌≡◌, ap, ◌∙◌, sym, ◌++◌, [], Option, Ok, Err, subst}
use Rattle.std.specs.Io.KnownBytes.{Appends, Keeps}
use Rattle.std.proofs.lemmas.List.{append-nil}
use Rattle.sentry_framing.proofs.SendingLemmas.{Progress, none_written}
use Rattle.sentry_plain.specs.Texts.{Bytes}
use Rattle.replay_run.specs.declared.fault.ReplayFault.{ReplayFault}
use Rattle.replay_run.specs.declared.fault.ReplayFault.TheVariants.{InputOutput}
use Rattle.replay_run.specs.Replays.{WritesText}

pub all_written : (before after : Option Bytes) (text rest : Bytes) → Progress before after text rest → rest ≡ [] → WritesText before after text (Ok tt)
all_written before after text rest so_far none =
    let whole : text ≡ so_far.0 = so_far.1 ∙ ap (λ (bytes : Bytes). so_far.0 ++ bytes) none ∙ append-nil so_far.0 in
    subst (Appends before after) (sym whole) so_far.2

pub some_written : (before after : Option Bytes) (text rest : Bytes) → Progress before after text rest → WritesText before after text (Err InputOutput)
some_written before after text rest so_far = (so_far.0, rest, so_far.1, so_far.2)

pub failed : (before between after : Option Bytes) (text rest : Bytes) (fault : ReplayFault) → Progress before between text rest
    → (fault ≡ InputOutput) × Keeps between after → WritesText before after text (Err fault)
failed before between after text rest fault so_far found =
    let written = none_written before between after text rest so_far found.1 in
    subst (λ (f : ReplayFault). WritesText before after text (Err f)) (sym found.0) (some_written before after text rest written)
