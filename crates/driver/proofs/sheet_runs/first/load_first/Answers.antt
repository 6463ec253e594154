use Rattle.std.proofs.lemmas.Result.{IfOk-weaker, IfErr-weaker}
use Rattle.driver.proofs.SheetRuns.SheetLemmas.{unloaded, other_form, first_held}
use Rattle.driver.proofs.sheet_runs.first.load_first.Goals as goal

pub returns-in-Ok-clause-sheet : goal.returns-in-Ok-clause-sheet
returns-in-Ok-clause-sheet g c =
    IfOk-weaker c.first_form.result _ _
    (λ made k. first_held (g.F.Files.state c.args.files.now).held c.args.name.now _ made _ c.in-Ok.ensures.sheet k)
    c.first_form.ensures.first

pub returns-in-Ok-clause-refused : goal.returns-in-Ok-clause-refused
returns-in-Ok-clause-refused g c =
    IfErr-weaker c.first_form.result _ _
    (λ status k. other_form c.args.name.now (g.F.Files.state c.args.files.now)
    (g.F.Files.state c.load_with_modules.new.files) _ _ status c.in-Ok.ensures.sheet k)
    c.first_form.ensures.refused

pub returns-in-Err-clause-refused : goal.returns-in-Err-clause-refused
returns-in-Err-clause-refused g c =
    rw c.told.ensures (unloaded c.args.name.now (g.F.Files.state c.args.files.now)
    (g.F.Files.state c.load_with_modules.new.files) c.in-Err.fault c.in-Err.ensures.refused)
