use Rattle.std.proofs.Common.{subst, sym, ◌≡◌, ap, ◌∙◌}
use Rattle.std.specs.Prelude.{None}
use Rattle.xt_syntax.specs.declared.exprs.Clause.{Clause}
use Rattle.xt_syntax.specs.declared.exprs.Clause.TheVariants.{For}
use Rattle.flow_eval.specs.FlowStreams.Streams.{IsStillClause}
use Rattle.flow_eval.proofs.FlowStreams.Clauses.{let_still, for_still}
use Rattle.flow_eval.proofs.flow_streams.streams.is_still_clause.Goals as goal

pub returns-in-Let : goal.returns-in-Let
returns-in-Let c e p =
    subst (λ (x : Clause). IsStillClause x p) (sym c.in-Let.is)
    (let_still p c.in-Let.bind (c.is_still_bind.ensures e p))

pub returns-in-None : goal.returns-in-None
returns-in-None c e p =
    subst (λ (x : Clause). IsStillClause x p)
    (sym (c.in-For.is ∙ ap (λ at. For c.in-For.bind at) c.in-None.is))
    (for_still p c.in-For.bind (c.is_still_bind-in-None.ensures e p))
