-- What calls of functions give.
use Rattle.std.specs.Prelude.{ℤ, Bool, List, [], ◌∷◌, Option, Some, None, Result, Ok}
use Rattle.xt_names.specs.declared.codes.Code.{Code}
use Rattle.xt_tree.specs.Place.{Place}
use Rattle.xt_atoms.specs.declared.atoms.Atom.{Atom as AtomValue}
use Rattle.xdm_items.specs.declared.items.Item.{Item}
use Rattle.xdm_items.specs.declared.items.Item.TheVariants.{Node, Atom}
use Rattle.xdm_items.specs.FunctionArguments.Answers.{of_integer, of_truth}
use Rattle.xdm_items.specs.FunctionArguments.Arguments.{and_then}

-- the sequence that a call gives, or its error
abbrev pub Outcome : Type 0
Outcome = Result (List Item) Code

abbrev pub as_integer : Result ℤ Code → Outcome
as_integer outcome = and_then outcome (λ n. Ok (of_integer n))

abbrev pub as_truth : Result Bool Code → Outcome
as_truth outcome = and_then outcome (λ t. Ok (of_truth t))

abbrev pub of_optional_atom : Option AtomValue → List Item
of_optional_atom None = []
of_optional_atom (Some a) = Atom a ∷ []

abbrev pub of_optional_node : Option Place → List Item
of_optional_node None = []
of_optional_node (Some n) = Node n ∷ []
