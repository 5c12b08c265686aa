use Rattle.std.proofs.Common.{sym, subst, ◌∙◌, set, arith, rules, length-set, ◌+◌}
use Rattle.sentry_transport.proofs.LimitLemmas.{AreMoved, moved_none, moved_more, moved_all}
use Rattle.sentry_transport.proofs.queueing.limits.Limits.limit_all.Goals as goal

pub returns : goal.returns
returns c = moved_all c.loop-index.index c.args.until c.args.self.now.until c.loop-index.self.until c.loop-index-test.false c.loop-index.invariant.moved

pub loop-index-init : goal.loop-index-init
loop-index-init c = record { moved = moved_none c.args.until c.args.self.now.until; long = search rules }

pub loop-index-preserved : goal.loop-index-preserved
loop-index-preserved c =
    let old = c.args.self.now.until in
    let now = c.loop-index.self.until in
    let index = c.loop-index.index in
    let long = c.loop-index.invariant.long in
    let inside = c.loop-index-test.true in record {
      moved = subst (λ moment. AreMoved (index + 1) c.args.until old (set now index moment)) (sym c.max.ensures)
          (moved_more index c.args.until old now (omega arith) c.loop-index.invariant.moved);
      long = length-set now index c.max.result ∙ long;
    }
