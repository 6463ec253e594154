use Rattle.declared_uses.proofs.OrderedGlobals.Behind.{globals_behind}
use Rattle.declared_uses.proofs.ordered_globals.globals_are_in_order.Goals as goal

pub returns : goal.returns
returns c = globals_behind
