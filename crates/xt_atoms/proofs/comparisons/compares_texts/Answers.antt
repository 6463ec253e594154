use Rattle.xt_atoms.proofs.TextOrders.{equal_holds, unequal_holds}
use Rattle.xt_atoms.proofs.comparisons.compares_texts.Goals as goal

pub returns-in-Eq : goal.returns-in-Eq
returns-in-Eq c = equal_holds _ _ _ _ c.in-Eq.is c.eq.ensures

pub returns-in-Ne : goal.returns-in-Ne
returns-in-Ne c = unequal_holds _ _ _ _ c.in-Ne.is c.ne.ensures
