use Rattle.std.proofs.Common.{◌≡◌, ap, ◌∙◌, subst, not, true, false}
use Rattle.std.specs.Prelude.{is_ok}
use Rattle.sentry_writers.proofs.PutLemmas.{is_not_written, is_not_renamed}
use Rattle.sentry_writers.specs.Folders.{write_call, rename_call}
use Rattle.sentry_writers.proofs.spool.put_file.Goals as goal

pub returns-then-is_err : goal.returns-then-is_err
returns-then-is_err g c =
    let failed : is_ok c.write.result ≡ false = c.is_err.ensures.negation ∙ ap not c.if-is_err.true in
    is_not_written g.F.Folder.does c.args.partial.now c.args.name.now c.args.text.now c.args.folder.now c.write.new.self c.remove.new.self (is_ok c.remove.result)
    (subst (λ done. g.F.Folder.does c.args.folder.now (write_call c.args.partial.now c.args.text.now done) c.write.new.self) failed c.write.ensures)
    c.remove.ensures

pub returns-then-is_err-2 : goal.returns-then-is_err-2
returns-then-is_err-2 g c =
    let written : is_ok c.write.result ≡ true = c.is_err.ensures.negation ∙ ap not c.if-is_err.false in
    let failed : is_ok c.rename.result ≡ false = c.is_err-2.ensures.negation ∙ ap not c.if-is_err-2.true in
    is_not_renamed g.F.Folder.does c.args.partial.now c.args.name.now c.args.text.now c.args.folder.now c.write.new.self c.rename.new.self c.remove-then-is_err-2.new.self (is_ok c.remove-then-is_err-2.result)
    (subst (λ done. g.F.Folder.does c.args.folder.now (write_call c.args.partial.now c.args.text.now done) c.write.new.self) written c.write.ensures)
    (subst (λ done. g.F.Folder.does c.write.new.self (rename_call c.args.partial.now c.args.name.now done) c.rename.new.self) failed c.rename.ensures)
    c.remove-then-is_err-2.ensures
