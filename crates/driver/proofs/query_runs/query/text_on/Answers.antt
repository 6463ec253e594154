use Rattle.std.proofs.lemmas.Result.{IfOk-weaker, IfErr-weaker, err_from_is_err_and}
use Rattle.command_words.specs.Requests.{inputs_in}
use Rattle.driver.proofs.QueryRuns.QueryLemmas.{inputs_refused, none_given, text_of_inputs}
use Rattle.driver.proofs.query_runs.query.text_on.Goals as goal

pub returns-clause-text : goal.returns-clause-text
returns-clause-text g c =
    IfOk-weaker c.result_text-text.result _ _
    (λ text made. text_of_inputs (g.F.Files.state c.args.files.now).held c.args.query.now (inputs_in c.args.inputs.now)
    c.in_ok-trees.trees.document c.in_ok-trees.trees.documents text.items
    c.in_ok-trees.ensures.trees made)
    c.result_text-text.ensures.text

pub returns-clause-refused : goal.returns-clause-refused
returns-clause-refused g c =
    IfErr-weaker c.result_text-text.result _ _
    (λ status refused. none_given c.args.query.now (inputs_in c.args.inputs.now)
    c.in_ok-trees.trees.document c.in_ok-trees.trees.documents
    (g.F.Files.state c.args.files.now) (g.F.Files.state c.load_inputs.new.files) status
    c.in_ok-trees.ensures.trees refused)
    c.result_text-text.ensures.refused

pub returns-in_err-trees-clause-refused : goal.returns-in_err-trees-clause-refused
returns-in_err-trees-clause-refused g c =
    let p = err_from_is_err_and c.from_residual.result c.from_residual.ensures.1 in
    rw (p.1, p.2) (inputs_refused c.args.query.now (inputs_in c.args.inputs.now)
    (g.F.Files.state c.args.files.now) (g.F.Files.state c.load_inputs.new.files)
    c.in_err-trees.field-0.0 c.in_err-trees.ensures.refused)
