use Rattle.std.proofs.Common.{◌≡◌, ◌∙◌, refl, sym, subst}
use Rattle.sentry_hub_table.specs.Hubs.{with_client}
use Rattle.sentry_hub_table.specs.Names.{client_of, session_of, transaction_of, span_of}
use Rattle.sentry_hub_table.specs.Tallies.{Lowers, Raises}
use Rattle.sentry_hub_table.proofs.NameLemmas.{has_name, has_room, renamed, kept_name, layers_kept}
use Rattle.sentry_hub_table.proofs.hub_table.HubTable.set_client.Goals as goal

-- what the top layer named is counted
pub lower-requires : goal.lower-requires
lower-requires g c = λ key is.
    has_name client_of c.self.inside.hubs c.args.number c.in-Some.hub.now (sym c.in-Some.ensures.value) c.self.inside.names.clients
    c.self.invariant.names.clients key (sym c.client_name.ensures ∙ is)

-- its place is free
pub raise-requires : goal.raise-requires
raise-requires g c =
    has_room client_of c.self.inside.hubs c.args.number c.in-Some.hub.now (sym c.in-Some.ensures.value) c.self.inside.names.clients
    c.lower.new.self c.self.invariant.names.clients
    (subst (Lowers c.self.inside.names.clients c.lower.new.self) c.client_name.ensures c.lower.ensures)

-- the top layer names another
pub invariant_of-self : goal.invariant_of-self
invariant_of-self g c =
    let hubs = c.self.inside.hubs in
    let number = c.args.number in
    let hub = c.in-Some.hub.now in
    let names = c.self.inside.names in
    let counts = c.self.invariant.names in
    let found = sym c.in-Some.ensures.value in
    let after = with_client hub c.args.client in
    record {
      names = record {
        clients =
            renamed client_of hubs number hub after found refl names.clients c.lower.new.self c.raise.new.self counts.clients
            (subst (Lowers c.self.inside.names.clients c.lower.new.self) c.client_name.ensures c.lower.ensures)
            (subst (Raises c.lower.new.self c.raise.new.self) c.client_name-2.ensures c.raise.ensures);
        sessions = kept_name session_of hubs number hub after found refl refl names.sessions counts.sessions;
        transactions = kept_name transaction_of hubs number hub after found refl refl names.transactions counts.transactions;
        spans = kept_name span_of hubs number hub after found refl refl names.spans counts.spans;
      };
      layers = c.self.invariant.layers ∙ sym (layers_kept hubs number hub after found refl);
    }
