use Rattle.std.proofs.Common.{◌≡◌, ◌++◌, drop}
use Rattle.std.specs.Prelude.{string_bytes, flat_map}
use Rattle.replay_print.proofs.print.print_joined.Given as goal

-- the items that are left complete the text
abbrev pub invariant-loop-item : goal.invariant-loop-item
invariant-loop-item g l =
    string_bytes l.text ++ flat_map (λ item. l.separator ++ g.T.Print.shown item) (drop l.item-index l.more)
    ≡ string_bytes l.initial.text ++ flat_map (λ item. l.separator ++ g.T.Print.shown item) l.more
