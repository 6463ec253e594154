use Rattle.std.proofs.Common.{sym, []}
use Rattle.std.proofs.lemmas.Result.{IfOk-weaker}
use Rattle.expr_keys.specs.declared.productions.Production.TheVariants.{WholeExpr as whole_expr}
use Rattle.expr_grammar.specs.Machine.{start}
use Rattle.query_reader.proofs.QuerySteps.FrontLemmas.{holds_at, end_none, end_some}
use Rattle.query_reader.proofs.query_steps.fronts.held_end.Goals as goal

pub returns-in-None : goal.returns-in-None
returns-in-None c = λ e.
    end_none c.args.limit _ c.args.first.now c.args.behind c.in-None.is
    (c.in_ok-lead.ensures c.args.limit (start whole_expr) [] (sym e)
    (holds_at c.args.limit _ (start whole_expr) _ c.in_ok-reader.ensures.language
    c.in_ok-reader.ensures.limit c.in_ok-reader.ensures.tracks))

pub returns-in-Some : goal.returns-in-Some
returns-in-Some c =
    IfOk-weaker c.finish.result _ _
    (λ x h. λ e. end_some c.args.limit _ c.in-Some.reader x c.args.first.now c.args.behind
    c.in-Some.is
    (c.in_ok-lead.ensures c.args.limit (start whole_expr) [] (sym e)
    (holds_at c.args.limit _ (start whole_expr) _ c.in_ok-reader.ensures.language
    c.in_ok-reader.ensures.limit c.in_ok-reader.ensures.tracks))
    (λ fs g. h fs g))
    c.finish.ensures
