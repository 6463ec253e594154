use Rattle.order_group.proofs.AtomKeys.KeyLemmas.{keys_agree, same_key_laws}
use Rattle.order_group.proofs.atom_keys.keys.equal_keys_are_the_same_key.Goals as goal

pub returns-clause-equal : goal.returns-clause-equal
returns-clause-equal c = keys_agree

pub returns-clause-laws : goal.returns-clause-laws
returns-clause-laws c = same_key_laws
