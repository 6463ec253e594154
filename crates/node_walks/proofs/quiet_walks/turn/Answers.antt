use Rattle.std.proofs.Common.{List, ap, ◌∙◌, true}
use Rattle.xt_syntax.specs.declared.exprs.Expr.{Expr}
use Rattle.quiet_eval.specs.QuietMeaning.Paths.{keeps}
use Rattle.node_walks.specs.Sift.{quiet_moves}
use Rattle.node_walks.proofs.SiftLemmas.{judged_keeps}
use Rattle.node_walks.proofs.quiet_walks.turn.Goals as goal

pub returns-else-not-kept-clause-kept : goal.returns-else-not-kept-clause-kept
returns-else-not-kept-clause-kept c = λ _.
    ap (λ (t : List Expr). quiet_moves true (keeps t) c.judge.new.sieve.seen.items c.args.walk.now) c.judge.ensures.tests
    ∙ judged_keeps c.in_ok-kept.kept _ _ _ c.args.walk.now c.in_ok-kept.ensures.kept c.if-not-kept.false
