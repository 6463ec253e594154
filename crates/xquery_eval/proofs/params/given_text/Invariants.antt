use Rattle.std.proofs.Common.{◌≡◌, drop}
use Rattle.expr_meaning.specs.Queries.{given_text}
use Rattle.xquery_eval.specs.Runs.{given_of}
use Rattle.xquery_eval.proofs.params.given_text.Given as goal

abbrev pub invariant-loop-param : goal.invariant-loop-param
invariant-loop-param l =
    given_text (given_of (drop l.param-index l.given)) l.name ≡ given_text (given_of l.given) l.name
