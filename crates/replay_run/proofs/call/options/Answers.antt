use Rattle.std.proofs.Common.{Some}
use Rattle.sentry_options.specs.Options.{default_options_with}
use Rattle.replay_run.proofs.call.options.Goals as goal

pub returns : goal.returns
returns c = λ i. record (default_options_with (record {})) {
  plain = record (c.new-plain.ensures i) { dsn = Some (c.in_ok-dsn.ensures i); release = c.args.release };
}
