use Rattle.std.proofs.Common.{◌≡◌, ◌++◌}
use Rattle.std.specs.Prelude.{codes, string_bytes, flat_map}
use Rattle.replay_print.specs.Printing.{tag_text}
use Rattle.replay_print.proofs.print.print_tags.Given as goal

-- the tags that are left complete the text
abbrev pub invariant-loop-key : goal.invariant-loop-key
invariant-loop-key l =
    string_bytes l.text ++ flat_map (λ tag. codes "," ++ tag_text tag) l.key-iterator
    ≡ string_bytes l.initial.text ++ flat_map (λ tag. codes "," ++ tag_text tag) l.initial.key-iterator
