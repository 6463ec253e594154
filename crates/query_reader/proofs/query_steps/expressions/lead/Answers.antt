use Rattle.std.proofs.Common.{true, false, subst}
use Rattle.query_reader.proofs.QuerySteps.ExpressionLemmas.{moves_none, moves_some, Advances}
use Rattle.query_reader.proofs.query_steps.expressions.lead.Goals as goal

pub returns-then-branch : goal.returns-then-branch
returns-then-branch c = λ k fs ts e h.
    let a : Advances true c.args.reader c.advance.new.self c.args.token.now c.args.second =
    subst (λ b. Advances b c.args.reader c.advance.new.self c.args.token.now c.args.second)
    c.if-branch.true c.in_ok-advance.ensures.led in
    moves_some k c.args.reader c.advance.new.self c.args.token.now c.args.second fs ts a
    c.in_ok-advance.ensures.language c.in_ok-advance.ensures.limit e h

pub returns-else-branch : goal.returns-else-branch
returns-else-branch c = λ k fs ts e h.
    let a : Advances false c.args.reader c.advance.new.self c.args.token.now c.args.second =
    subst (λ b. Advances b c.args.reader c.advance.new.self c.args.token.now c.args.second)
    c.if-branch.false c.in_ok-advance.ensures.led in
    moves_none k c.args.reader c.advance.new.self c.args.token.now c.args.second fs ts a e h
