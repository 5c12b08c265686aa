use Rattle.std.proofs.Common.{◌++◌, ◌-◌, ◌∙◌, Some, ap, arith, get_or, sym}
use Rattle.std.specs.Option.{option_to_list}
use Rattle.sentry_plain.proofs.TableLemmas.{live_before, table_before}
use Rattle.sentry_plain.proofs.table.rows.drop_last_empty.Goals as goal

pub returns-clause-live : goal.returns-clause-live
returns-clause-live g c =
    let row = c.index.result.now in
    let last = ap Some (ap (λ count. get_or c.args.rows.now.items (count - 1) row) (sym c.len-count.ensures) ∙ sym c.index.ensures) in
    let popped = c.pop.ensures.value row (omega (arith, c.if-count-eq0.false, c.len-count.ensures)) ∙ last in
    live_before c.args.rows.now.items c.pop.new.self.items row
    (c.pop.ensures.items ∙ ap (λ it. c.pop.new.self.items ++ option_to_list it) popped)
    (sym c.is_full.ensures ∙ c.if-is_full.false)

pub returns-clause-table : goal.returns-clause-table
returns-clause-table g c =
    let row = c.index.result.now in
    let last = ap Some (ap (λ count. get_or c.args.rows.now.items (count - 1) row) (sym c.len-count.ensures) ∙ sym c.index.ensures) in
    let popped = c.pop.ensures.value row (omega (arith, c.if-count-eq0.false, c.len-count.ensures)) ∙ last in
    table_before c.args.rows.now.items c.pop.new.self.items c.args.full row
    (c.pop.ensures.items ∙ ap (λ it. c.pop.new.self.items ++ option_to_list it) popped)
    (sym c.is_full.ensures ∙ c.if-is_full.false) c.requires
