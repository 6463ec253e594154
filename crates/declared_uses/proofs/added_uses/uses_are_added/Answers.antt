use Rattle.declared_uses.proofs.AddedUses.Ends.{expr_adds}
use Rattle.declared_uses.proofs.AddedUses.Bodies.{bound_adds, callee_adds}
use Rattle.declared_uses.proofs.added_uses.uses_are_added.Goals as goal

pub returns-clause-expressions : goal.returns-clause-expressions
returns-clause-expressions c = λ e. expr_adds e

pub returns-clause-bounds : goal.returns-clause-bounds
returns-clause-bounds c = λ b. bound_adds b

pub returns-clause-callees : goal.returns-clause-callees
returns-clause-callees c = λ params body. callee_adds params body
