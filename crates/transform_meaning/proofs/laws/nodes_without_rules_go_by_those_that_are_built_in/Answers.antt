use Rattle.transform_meaning.proofs.Plain.{built_in}
use Rattle.transform_meaning.proofs.laws.nodes_without_rules_go_by_those_that_are_built_in.Goals as goal

pub returns-clause-documents : goal.returns-clause-documents
returns-clause-documents c = λ sheet doors passed tunnel mode n place size kids k e.
    built_in sheet doors passed tunnel mode n place size _ e k

pub returns-clause-elements : goal.returns-clause-elements
returns-clause-elements c = λ sheet doors passed tunnel mode n place size name attributes kids k e.
    built_in sheet doors passed tunnel mode n place size _ e k

pub returns-clause-texts : goal.returns-clause-texts
returns-clause-texts c = λ sheet doors passed tunnel mode n place size t k e.
    built_in sheet doors passed tunnel mode n place size _ e k

pub returns-clause-attributes : goal.returns-clause-attributes
returns-clause-attributes c = λ sheet doors passed tunnel mode n place size name t k e.
    built_in sheet doors passed tunnel mode n place size _ e k

pub returns-clause-comments : goal.returns-clause-comments
returns-clause-comments c = λ sheet doors passed tunnel mode n place size t k e.
    built_in sheet doors passed tunnel mode n place size _ e k

pub returns-clause-instructions : goal.returns-clause-instructions
returns-clause-instructions c = λ sheet doors passed tunnel mode n place size target t k e.
    built_in sheet doors passed tunnel mode n place size _ e k
