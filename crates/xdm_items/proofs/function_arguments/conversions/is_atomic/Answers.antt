use Rattle.std.proofs.Common.{sym, ◌∙◌}
use Rattle.xdm_items.proofs.FunctionArguments.AtomLemmas.{atoms_stay}
use Rattle.xdm_items.proofs.function_arguments.conversions.is_atomic.Goals as goal

pub returns-clause-exactly : goal.returns-clause-exactly
returns-clause-exactly c = c.matches.ensures

pub returns-clause-stay : goal.returns-clause-stay
returns-clause-stay c = λ all. atoms_stay c.args.kind c.args.count c.args.items.now (sym c.matches.ensures ∙ all)
