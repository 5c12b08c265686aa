use Rattle.std.proofs.Common.{refl}
use Rattle.sentry_hub.proofs.performance.handle.Handle.data.Goals as goal

-- the closure ran on the copy
pub returns : goal.returns
returns g c = record {
  lent = _;
  left = _;
  copied = rw c.new-data.ensures c.in_ok-copy.ensures.done;
  names = rw c.new-data.ensures c.span_key.ensures;
  begins = rw c.new-data.ensures refl;
  met = c.in_ok-answer.ensures;
  made = c.in_ok-make_all.ensures;
}
