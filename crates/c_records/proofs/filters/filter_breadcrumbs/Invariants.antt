use Rattle.std.proofs.Common.{◌≡◌, ◌++◌}
use Rattle.std.specs.List.{filter_map}
use Rattle.std.specs.Vec.Iter.{into_iter_items}
use Rattle.c_records.specs.Filters.{filtered_breadcrumb}
use Rattle.c_records.proofs.filters.filter_breadcrumbs.Given as goal

-- the breadcrumbs so far, and what is kept of those that are left, are the whole
abbrev pub invariant-loop-breadcrumb : goal.invariant-loop-breadcrumb
invariant-loop-breadcrumb l =
    l.kept ++ filter_map (filtered_breadcrumb l.fn.prefix) (into_iter_items l.breadcrumb-iterator)
    ≡ filter_map (filtered_breadcrumb l.fn.prefix) l.fn.breadcrumbs.items
