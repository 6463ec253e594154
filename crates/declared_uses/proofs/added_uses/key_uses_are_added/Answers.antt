use Rattle.declared_uses.proofs.AddedUses.Keys.{bound_adds, callee_adds}
use Rattle.declared_uses.proofs.added_uses.key_uses_are_added.Goals as goal

pub returns-clause-bounds : goal.returns-clause-bounds
returns-clause-bounds c = λ b. bound_adds b

pub returns-clause-callees : goal.returns-clause-callees
returns-clause-callees c = λ params body. callee_adds params body
