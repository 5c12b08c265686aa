use Rattle.std.proofs.Common.{◌≡◌, ◌∙◌, refl, sym, subst}
use Rattle.sentry_hub_table.specs.Hubs.{with_scope}
use Rattle.sentry_hub_table.specs.Names.{transaction_of, span_of}
use Rattle.sentry_hub_table.specs.Tallies.{Lowers, Raises}
use Rattle.sentry_hub_table.proofs.AllNameLemmas.{all_rescoped}
use Rattle.sentry_hub_table.proofs.NameLemmas.{has_name, has_room, layers_kept}
use Rattle.sentry_hub_table.proofs.hub_table.HubTable.edit_scope.Goals as goal

-- what the scope named is counted
pub lower-requires : goal.lower-requires
lower-requires g c = λ key is.
    has_name transaction_of c.self.inside.hubs c.args.number c.in-Some.hub.now (sym c.in-Some.ensures.value) c.self.inside.names.transactions
    c.self.invariant.names.transactions key (sym c.transaction_name.ensures ∙ is)

-- its place is free
pub raise-requires : goal.raise-requires
raise-requires g c =
    has_room transaction_of c.self.inside.hubs c.args.number c.in-Some.hub.now (sym c.in-Some.ensures.value) c.self.inside.names.transactions
    c.lower.new.self c.self.invariant.names.transactions
    (subst (Lowers c.self.inside.names.transactions c.lower.new.self) c.transaction_name.ensures c.lower.ensures)

-- what the scope named is counted
pub lower-requires-2 : goal.lower-requires-2
lower-requires-2 g c = λ key is.
    has_name span_of c.self.inside.hubs c.args.number c.in-Some.hub.now (sym c.in-Some.ensures.value) c.self.inside.names.spans
    c.self.invariant.names.spans key (sym c.span_name.ensures ∙ is)

-- its place is free
pub raise-requires-2 : goal.raise-requires-2
raise-requires-2 g c =
    has_room span_of c.self.inside.hubs c.args.number c.in-Some.hub.now (sym c.in-Some.ensures.value) c.self.inside.names.spans
    c.lower-2.new.self c.self.invariant.names.spans
    (subst (Lowers c.self.inside.names.spans c.lower-2.new.self) c.span_name.ensures c.lower-2.ensures)

-- the scope names another
pub invariant_of-self-2 : goal.invariant_of-self-2
invariant_of-self-2 g c =
    let hubs = c.self.inside.hubs in
    let hub = c.in-Some.hub.now in
    let found = sym c.in-Some.ensures.value in
    record {
      names =
          all_rescoped hubs c.args.number hub c.edit.new.self found c.self.inside.names c.lower.new.self c.raise.new.self c.lower-2.new.self
          c.raise-2.new.self c.self.invariant.names
          (subst (Lowers c.self.inside.names.transactions c.lower.new.self) c.transaction_name.ensures c.lower.ensures)
          (subst (Raises c.lower.new.self c.raise.new.self) c.transaction_name-2.ensures c.raise.ensures)
          (subst (Lowers c.self.inside.names.spans c.lower-2.new.self) c.span_name.ensures c.lower-2.ensures)
          (subst (Raises c.lower-2.new.self c.raise-2.new.self) c.span_name-2.ensures c.raise-2.ensures);
      layers = c.self.invariant.layers ∙ sym (layers_kept hubs c.args.number hub (with_scope hub c.edit.new.self) found refl);
    }
