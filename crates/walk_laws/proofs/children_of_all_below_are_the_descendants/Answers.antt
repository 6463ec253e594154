use Rattle.walk_laws.proofs.Below.{below_law}
use Rattle.walk_laws.proofs.children_of_all_below_are_the_descendants.Goals as goal

pub returns : goal.returns
returns c = λ wanted tests n free. below_law wanted tests free n
