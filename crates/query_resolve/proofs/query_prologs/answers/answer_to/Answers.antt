use Rattle.query_resolve.proofs.QueryPrologs.FaultLemmas.{some_broken}
use Rattle.query_resolve.proofs.query_prologs.answers.answer_to.Goals as goal

pub returns-in-Some : goal.returns-in-Some
returns-in-Some c = λ codes e. some_broken codes c.in-Some.code c.args.found c.in-Some.is e
