use Rattle.std.proofs.Common.{◌≡◌, ◌<◌, ◌++◌, length, arith, subst}
use Rattle.std.specs.Prelude.{IfSome}
use Rattle.std.specs.Io.BufRead.{take_through}
use Rattle.sentry_plain.specs.Texts.{Bytes}
use Rattle.replay_run.proofs.LineLemmas.{taken}
use Rattle.replay_run.proofs.lines.next_line.Goals as goal

pub returns-in-Ok-clause-taken : goal.returns-in-Ok-clause-taken
returns-in-Ok-clause-taken g c =
    let some : 0 < length c.read_until.new.buf.items = omega (arith, c.in-Ok.ensures.ok, c.clear.ensures.len, c.in-Ok.field-0-test.1) in
    taken (g.R.Read.remaining c.args.reader.now) (g.R.Read.remaining c.read_until.new.self) c.read_until.new.buf.items c.strip_line_feed.new.line.items some
    (subst (λ (before : Bytes). IfSome (g.R.Read.remaining c.args.reader.now) (λ input. c.read_until.new.buf.items ≡ before ++ take_through 10 input)) c.clear.ensures.items c.in-Ok.ensures.bytes)
    c.in-Ok.ensures.rest
    c.strip_line_feed.ensures
