use Rattle.std.proofs.Common.{sym, subst}
use Rattle.sentry_hub_table.specs.Names.{HasNames, client_of, session_of, transaction_of, span_of}
use Rattle.sentry_hub_table.proofs.NameLemmas.{has_name_left}
use Rattle.sentry_hub_table.proofs.names.Names.lower_each.Goals as goal

-- the layer at the index is counted still
pub lower-requires : goal.lower-requires
lower-requires g c =
    let layers = c.args.layers.now in
    let i = c.loop-layer.layer-index in
    let layer = c.layer-item.result in
    let so_far = c.loop-layer.invariant in
    let old = c.args.self.now in
    let now = c.loop-layer.self in
    subst (HasNames now) (sym c.layer_names.ensures) (record {
      clients = has_name_left client_of layers i layer c.loop-layer-test.true (sym c.layer-item.is) old.clients now.clients c.requires.clients so_far.clients;
      sessions = has_name_left session_of layers i layer c.loop-layer-test.true (sym c.layer-item.is) old.sessions now.sessions c.requires.sessions so_far.sessions;
      transactions = has_name_left transaction_of layers i layer c.loop-layer-test.true (sym c.layer-item.is) old.transactions now.transactions c.requires.transactions so_far.transactions;
      spans = has_name_left span_of layers i layer c.loop-layer-test.true (sym c.layer-item.is) old.spans now.spans c.requires.spans so_far.spans;
    })
