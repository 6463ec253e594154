use Rattle.std.proofs.Common.{sym, ◌∷◌}
use Rattle.std.proofs.lemmas.Result.{IfOk-weaker}
use Rattle.expr_keys.specs.declared.productions.Production.TheVariants.{WholeExpr as whole_expr}
use Rattle.expr_grammar.specs.Machine.{start}
use Rattle.query_reader.proofs.QuerySteps.FrontLemmas.{holds_at, both_none, both_some}
use Rattle.query_reader.proofs.query_steps.fronts.both_steps.Goals as goal

pub returns-in-None : goal.returns-in-None
returns-in-None c = λ ts e f.
    both_none c.args.limit _ c.args.first.now c.args.token.now c.args.behind c.args.second ts
    c.in-None.is
    (c.in_ok-lead.ensures c.args.limit (start whole_expr) (c.args.token.now ∷ ts) (sym e)
    (holds_at c.args.limit _ (start whole_expr) _ c.in_ok-reader.ensures.language
    c.in_ok-reader.ensures.limit c.in_ok-reader.ensures.tracks))

pub returns-in-Some : goal.returns-in-Some
returns-in-Some c =
    IfOk-weaker c.body_step.result _ _
    (λ x h. λ ts e f. both_some c.args.limit _ c.in-Some.reader x c.args.first.now
    c.args.token.now c.args.behind c.args.second ts c.in-Some.is
    (c.in_ok-lead.ensures c.args.limit (start whole_expr) (c.args.token.now ∷ ts) (sym e)
    (holds_at c.args.limit _ (start whole_expr) _ c.in_ok-reader.ensures.language
    c.in_ok-reader.ensures.limit c.in_ok-reader.ensures.tracks))
    (λ fs g. h c.args.limit fs ts f g))
    c.body_step.ensures
