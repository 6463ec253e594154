use Rattle.transform_meaning.proofs.Plain.{given_tree, made_tree}
use Rattle.transform_meaning.proofs.laws.keys_are_looked_up_in_the_tree_of_the_node.Goals as goal

pub returns-clause-given : goal.returns-clause-given
returns-clause-given c = given_tree

pub returns-clause-made : goal.returns-clause-made
returns-clause-made c = made_tree
