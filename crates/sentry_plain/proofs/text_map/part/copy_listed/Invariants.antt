use Rattle.std.proofs.Common.{◌≡◌, take}
use Rattle.sentry_plain.proofs.text_map.part.copy_listed.Given as goal

-- the entries so far
abbrev pub invariant-loop-entry : goal.invariant-loop-entry
invariant-loop-entry g l = l.copies.items ≡ take l.entry-index l.entries
