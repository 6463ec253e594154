use Rattle.std.proofs.lemmas.Result.{IfErr-weaker}
use Rattle.command_words.specs.Requests.{inputs_in}
use Rattle.driver.proofs.Runs.{sheet_refused, query_refused}
use Rattle.driver.proofs.program.text_of.Goals as goal

pub returns-in-Query-clause-refused : goal.returns-in-Query-clause-refused
returns-in-Query-clause-refused g c =
    rw c.in-Query.is (IfErr-weaker c.query_text.result _ _
    (λ status x. query_refused c.in-Query.query.now (inputs_in c.in-Query.inputs)
    (g.F.Files.state c.args.files.now) (g.F.Files.state c.query_text.new.files) status x)
    c.query_text.ensures.refused)

pub returns-in-Transform-clause-refused : goal.returns-in-Transform-clause-refused
returns-in-Transform-clause-refused g c =
    rw c.in-Transform.is (IfErr-weaker c.sheet_text.result _ _
    (λ status x. sheet_refused c.in-Transform.sheet.now (inputs_in c.in-Transform.inputs)
    (g.F.Files.state c.args.files.now) (g.F.Files.state c.sheet_text.new.files) status x)
    c.sheet_text.ensures.refused)
