use Rattle.std.proofs.Common.{sym, ◌∙◌}
use Rattle.std.proofs.lemmas.Result.{IfOk-weaker}
use Rattle.expr_keys.specs.declared.productions.Production.TheVariants.{WholeExpr as whole_expr}
use Rattle.expr_grammar.specs.Machine.{start}
use Rattle.query_reader.proofs.QuerySteps.FrontLemmas.{holds_at, front_body}
use Rattle.query_reader.proofs.query_steps.fronts.front_step.Goals as goal

pub returns : goal.returns
returns c =
    IfOk-weaker c.body_step.result _ _
    (λ x h. λ ts e. front_body c.args.limit x c.args.token c.args.second ts
    (sym c.may_open.ensures ∙ c.if-may_open.false)
    (h c.args.limit (start whole_expr) ts e
    (holds_at c.args.limit _ (start whole_expr) _ c.in_ok-reader.ensures.language
    c.in_ok-reader.ensures.limit c.in_ok-reader.ensures.tracks)))
    c.body_step.ensures
