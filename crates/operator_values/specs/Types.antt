-- Expressions on types (XPath 2.0, 3.10).
use Rattle.std.specs.Prelude.{List, [], ◌∷◌, Bool, true, false, if◌then◌else◌}
use Rattle.std.specs.Prelude.{Option, Some, None, Result, Ok, Err, is_ok}
use Rattle.xt_names.specs.declared.codes.Code.{Code}
use Rattle.xt_names.specs.declared.codes.Code.TheVariants.{Dynamic}
use Rattle.xt_names.specs.declared.codes.DynamicCode.TheVariants.{XPDY0050}
use Rattle.xt_names.specs.declared.kinds.AtomType.{AtomType}
use Rattle.xt_types.specs.declared.types.SeqType.{SeqType}
use Rattle.xt_atoms.specs.declared.atoms.Atom.{Atom as AtomValue}
use Rattle.xt_atoms.specs.Casts.{cast_of, wrong_type}
use Rattle.xdm_items.specs.declared.items.Item.{Item}
use Rattle.xdm_items.specs.declared.items.Item.TheVariants.{Atom}
use Rattle.xdm_items.specs.Matching.{matches_type}
use Rattle.xdm_items.specs.FunctionArguments.Answers.{of_truth}
use Rattle.xdm_items.specs.FunctionArguments.Arguments.{and_then}
use Rattle.operator_values.specs.Operands.{optional_atom}

-- `a instance of T`
unfoldable pub instance_value : SeqType → List Item → Result (List Item) Code
instance_value type xs = Ok (of_truth (matches_type type xs))

-- `a treat as T`
unfoldable pub treated_value : SeqType → List Item → Result (List Item) Code
treated_value type xs = if matches_type type xs then Ok xs else Err (Dynamic XPDY0050)

abbrev pub cast_or_empty : AtomType → Bool → Option AtomValue → Result (List Item) Code
cast_or_empty type true None = Ok []
cast_or_empty type false None = Err wrong_type
cast_or_empty type empty (Some a) = and_then (cast_of a type) (λ b. Ok (Atom b ∷ []))

-- `a cast as T`, or `T?`, which takes the empty list
unfoldable pub cast_value : AtomType → Bool → List Item → Result (List Item) Code
cast_value type empty xs = and_then (optional_atom xs) (cast_or_empty type empty)

-- `a castable as T`: whether the cast would give a value
unfoldable pub castable_value : AtomType → Bool → List Item → Result (List Item) Code
castable_value type empty xs = Ok (of_truth (is_ok (cast_value type empty xs)))
