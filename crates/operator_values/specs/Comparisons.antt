-- Comparisons of sequences of atoms (XPath 2.0, 3.5.1 and 3.5.2).
use Rattle.std.specs.Prelude.{List, [], ◌∷◌, map, Bool, true, false, Result, Ok, Err}
use Rattle.xt_names.specs.declared.codes.Code.{Code}
use Rattle.xt_names.specs.declared.kinds.CompareOp.{CompareOp}
use Rattle.xt_atoms.specs.declared.atoms.Atom.{Atom as AtomValue}
use Rattle.xt_atoms.specs.Comparisons.{value_comparison, general_comparison}
use Rattle.xdm_items.specs.declared.items.Item.{Item}
use Rattle.xdm_items.specs.FunctionArguments.Answers.{of_truth}
use Rattle.xdm_items.specs.FunctionArguments.Arguments.{and_then}
use Rattle.operator_values.specs.Operands.{atom_of, optional_atom, of_both}

-- the first that is true or fails decides
abbrev pub or_next : Result Bool Code → Result Bool Code → Result Bool Code
or_next (Ok true) next = Ok true
or_next (Ok false) next = next
or_next (Err code) next = Err code

-- an atom with each of the others in turn
abbrev pub compares_with_some : CompareOp → AtomValue → List AtomValue → Result Bool Code
compares_with_some op a [] = Ok false
compares_with_some op a (b ∷ bs) =
    or_next (general_comparison op a b) (compares_with_some op a bs)

-- pair by pair, the left atom outermost
abbrev pub some_compare : CompareOp → List AtomValue → List AtomValue → Result Bool Code
some_compare op [] bs = Ok false
some_compare op (a ∷ rest) bs = or_next (compares_with_some op a bs) (some_compare op rest bs)

abbrev pub truth_list : Result Bool Code → Result (List Item) Code
truth_list truth = and_then truth (λ t. Ok (of_truth t))

-- `=` and its kin
unfoldable pub general_value : CompareOp → List Item → List Item → Result (List Item) Code
general_value op xs ys = truth_list (some_compare op (map atom_of xs) (map atom_of ys))

-- `eq` and its kin
unfoldable pub single_value : CompareOp → List Item → List Item → Result (List Item) Code
single_value op xs ys =
    and_then (optional_atom xs) (λ a. and_then (optional_atom ys)
    (of_both (λ x y. truth_list (value_comparison op x y)) a))
