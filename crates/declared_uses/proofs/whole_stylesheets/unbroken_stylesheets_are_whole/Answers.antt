use Rattle.declared_uses.proofs.WholeStylesheets.Wholes.{names_whole, order_whole}
use Rattle.declared_uses.proofs.whole_stylesheets.unbroken_stylesheets_are_whole.Goals as goal

pub returns-clause-names : goal.returns-clause-names
returns-clause-names c = λ ds modes called levels n h. names_whole ds modes called levels h n

pub returns-clause-order : goal.returns-clause-order
returns-clause-order c = λ ds modes called levels h. order_whole ds modes called levels h
