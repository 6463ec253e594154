use Rattle.std.proofs.Common.{rules, subst}
use Rattle.expr_meaning.specs.Env.{Program}
use Rattle.expr_meaning.specs.Meaning.{outcome}
use Rattle.expr_meaning.specs.Queries.{calls_at}
use Rattle.eval_scopes.specs.Answers.{Answers}
use Rattle.eval_scopes.specs.Scopes.{env_of}
use Rattle.expr_eval.specs.Serves.{Serves}
use Rattle.xquery_eval.specs.Runs.{run_of}
use Rattle.xquery_eval.proofs.calls.eval_in.Goals as goal

pub eval-requires-clause-serves : goal.eval-requires-clause-serves
unfolding Serves
eval-requires-clause-serves c = search rules

pub returns : goal.returns
returns c =
    subst (λ (p : Program). Answers c.eval.result c.eval.new.next
    (outcome p c.args.e.now (env_of c.args.env.now) c.args.next.now))
    (c.fixed.ensures (calls_at (run_of c.args.run.now) c.args.globals.now c.args.left))
    c.eval.ensures
