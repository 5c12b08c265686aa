-- What a table of hubs keeps of the names in its layers.
use Rattle.std.specs.Prelude.{◌≡◌}
use Rattle.sentry_hub_table.specs.Names.{CountsNames, all_layers}
use Rattle.sentry_hub_table.specs.declared.hub_table.HubTable.TheInside.{Inside}

-- each number is the number of layers that name this client, session, transaction or span
pub record TrueNames {P : Type 0} (a : Inside P) : Type 0 where
  pub names : CountsNames a.names a.hubs
  pub layers : a.layers ≡ all_layers a.hubs
