use Rattle.std.proofs.lemmas.Result.{IfOk-weaker, IfErr-weaker}
use Rattle.command_words.specs.Requests.{inputs_in}
use Rattle.driver.proofs.SheetRuns.SheetLemmas.{none_made, text_of_inputs}
use Rattle.driver.proofs.sheet_runs.texts.text_on.Goals as goal

pub returns-clause-text : goal.returns-clause-text
returns-clause-text g c =
    IfOk-weaker c.result_text-text.result _ _
    (λ text made. text_of_inputs (g.F.Files.state c.args.files.now).held c.args.sheet.now
    (inputs_in c.args.inputs.now) c.in_ok-trees.trees.document c.in_ok-trees.trees.documents
    text.items c.in_ok-trees.ensures.trees made)
    c.result_text-text.ensures.text

pub returns-clause-refused : goal.returns-clause-refused
returns-clause-refused g c =
    IfErr-weaker c.result_text-text.result _ _
    (λ status refused. none_made c.args.sheet.now (inputs_in c.args.inputs.now)
    c.in_ok-trees.trees.document c.in_ok-trees.trees.documents
    (g.F.Files.state c.args.files.now) (g.F.Files.state c.load_inputs.new.files) status
    c.in_ok-trees.ensures.trees refused)
    c.result_text-text.ensures.refused
