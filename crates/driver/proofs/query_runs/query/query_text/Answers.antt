use Rattle.std.proofs.lemmas.Result.{IfOk-weaker, IfErr-weaker, err_from_is_err_and}
use Rattle.command_words.specs.Requests.{inputs_in}
use Rattle.driver.proofs.QueryRuns.QueryLemmas.{refused_first, refused_second, text_given}
use Rattle.driver.proofs.query_runs.query.query_text.Goals as goal

pub returns-clause-text : goal.returns-clause-text
returns-clause-text g c =
    IfOk-weaker c.text_on-text.result _ _
    (λ text made. text_given c.args.query.now (inputs_in c.args.inputs.now) c.in_ok-query.query text.items
    (g.F.Files.state c.args.files.now) (g.F.Files.state c.load_query.new.files)
    c.in_ok-query.ensures.query c.in_ok-query.ensures.keeps made)
    c.text_on-text.ensures.text

pub returns-clause-refused : goal.returns-clause-refused
returns-clause-refused g c =
    IfErr-weaker c.text_on-text.result _ _
    (λ status refused. refused_second c.args.query.now (inputs_in c.args.inputs.now) c.in_ok-query.query
    (g.F.Files.state c.args.files.now) (g.F.Files.state c.load_query.new.files) (g.F.Files.state c.text_on-text.new.files) status
    c.in_ok-query.ensures.query c.in_ok-query.ensures.keeps refused)
    c.text_on-text.ensures.refused

pub returns-in_err-query-clause-refused : goal.returns-in_err-query-clause-refused
returns-in_err-query-clause-refused g c =
    let p = err_from_is_err_and c.from_residual.result c.from_residual.ensures.1 in
    rw (p.1, p.2) (refused_first c.args.query.now (inputs_in c.args.inputs.now)
    (g.F.Files.state c.args.files.now) (g.F.Files.state c.load_query.new.files)
    c.in_err-query.field-0.0 c.in_err-query.ensures.refused)
