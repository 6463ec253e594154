use Rattle.std.proofs.Common.{ap}
use Rattle.std.proofs.lemmas.Result.{IfOk-weaker}
use Rattle.eval_lates.specs.EvalScopes.Scopes.{env_of, focus_of}
use Rattle.quiet_steps.proofs.Answered.{focus_answers, nowhere_answers}
use Rattle.quiet_steps.proofs.walks.walk_in.Goals as goal

pub returns-in-Absent : goal.returns-in-Absent
returns-in-Absent c =
    nowhere_answers c.args.e.now (env_of c.args.env.now) (ap focus_of c.in-Absent.is)

pub returns-in-At : goal.returns-in-At
returns-in-At c =
    IfOk-weaker c.walk_at_item.result _ _
    (λ found along. focus_answers found c.args.e.now (env_of c.args.env.now) _
    (ap focus_of c.in-At.is) along) c.walk_at_item.ensures
