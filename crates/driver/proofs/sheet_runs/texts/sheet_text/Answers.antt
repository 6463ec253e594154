use Rattle.std.proofs.lemmas.Result.{IfOk-weaker, IfErr-weaker}
use Rattle.command_words.specs.Requests.{inputs_in}
use Rattle.driver.proofs.SheetRuns.SheetLemmas.{refused_second, sheet_held, text_made}
use Rattle.driver.proofs.sheet_runs.texts.sheet_text.Goals as goal

pub returns-clause-text : goal.returns-clause-text
returns-clause-text g c =
    IfOk-weaker c.text_on-text.result _ _
    (λ text made. text_made c.args.sheet.now (inputs_in c.args.inputs.now) c.in-Some.tree.now
    text.items (g.F.Files.state c.args.files.now) (g.F.Files.state c.load_first.new.files)
    (sheet_held (g.F.Files.state c.args.files.now).held c.args.sheet.now c.in_ok-loaded.loaded
    c.in-Some.tree.now c.in_ok-loaded.ensures.sheet c.in-Some.ensures)
    c.in_ok-loaded.ensures.keeps made)
    c.text_on-text.ensures.text

pub returns-clause-refused : goal.returns-clause-refused
returns-clause-refused g c =
    IfErr-weaker c.text_on-text.result _ _
    (λ status refused. refused_second c.args.sheet.now (inputs_in c.args.inputs.now)
    c.in-Some.tree.now (g.F.Files.state c.args.files.now) (g.F.Files.state c.load_first.new.files)
    (g.F.Files.state c.text_on-text.new.files) status
    (sheet_held (g.F.Files.state c.args.files.now).held c.args.sheet.now c.in_ok-loaded.loaded
    c.in-Some.tree.now c.in_ok-loaded.ensures.sheet c.in-Some.ensures)
    c.in_ok-loaded.ensures.keeps refused)
    c.text_on-text.ensures.refused
