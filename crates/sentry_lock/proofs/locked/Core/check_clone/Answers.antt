use Rattle.std.proofs.Common.{◌≡◌, ◌-◌, ◌^◌, nat_lt, true, false, arith}
use Rattle.sentry_lock.proofs.Refusals.{stale_clone, full_clone, made_clone}
use Rattle.sentry_lock.proofs.locked.Core.check_clone.Goals as goal

pub returns-in_default-clause-refused : goal.returns-in_default-clause-refused
returns-in_default-clause-refused g c =
    stale_clone c.args.self.now.engine c.args.client c.client_label.result c.client_label.ensures c.in_default.is

pub returns-then-next_client-clause-refused : goal.returns-then-next_client-clause-refused
returns-then-next_client-clause-refused g c =
    let last : nat_lt c.next_client.result (2 ^ 64 - 1) ≡ false = grind arith in
    full_clone c.args.self.now.engine c.args.client c.client_label.result c.client_label.ensures c.in-Some.field-0 c.in-Some.is
    c.next_client.result c.next_client.ensures last

pub returns-clause-made : goal.returns-clause-made
returns-clause-made g c =
    let left : nat_lt c.next_client.result (2 ^ 64 - 1) ≡ true = grind arith in
    made_clone c.args.self.now.engine c.args.client c.client_label.result c.client_label.ensures c.in-Some.field-0 c.in-Some.is
    c.next_client.result c.next_client.ensures left
