use Rattle.std.proofs.Common.{arith, sym, ◌∙◌}
use Rattle.std.proofs.lemmas.Bool.{eqb-true}
use Rattle.std.proofs.lemmas.List.{nil_from_length}
use Rattle.expr_reader.proofs.PassingLemmas.{passed_level}
use Rattle.expr_reader.proofs.passing.passes_on.Goals as goal

pub returns-then-is_empty : goal.returns-then-is_empty
returns-then-is_empty c = λ e. passed_level c.args.token.now c.in-OperatorChain.level c.args.frame.now
    c.in-OperatorChain.is c.if-frame-eq1.true (nil_from_length _ (omega (
      arith,
      eqb-true _ 0 (sym c.is_empty.ensures
          ∙ c.if-is_empty.true),
    ))) (c.refuses_tail.ensures e)
