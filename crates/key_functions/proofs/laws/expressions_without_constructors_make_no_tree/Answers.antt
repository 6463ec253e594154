use Rattle.key_functions.proofs.Uses.{no_tree_made}
use Rattle.key_functions.proofs.laws.expressions_without_constructors_make_no_tree.Goals as goal

pub returns : goal.returns
returns c = no_tree_made
