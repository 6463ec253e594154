-- Arithmetic and ranges (XPath 2.0, 3.3.1 and 3.4).
use Rattle.std.specs.Prelude.{◌≡◌, ℤ, pos, List, Option, Some, None, Result, Ok, Err}
use Rattle.xt_names.specs.declared.codes.Code.{Code}
use Rattle.xt_names.specs.declared.kinds.ArithOp.{ArithOp}
use Rattle.xt_names.specs.declared.kinds.ArithOp.TheVariants.{Sub}
use Rattle.xt_atoms.specs.declared.atoms.Atom.{Atom as AtomValue}
use Rattle.xt_atoms.specs.Arithmetic.{integer_operand, computed}
use Rattle.xdm_items.specs.declared.items.Item.{Item}
use Rattle.xdm_items.specs.FunctionArguments.Answers.{of_integer}
use Rattle.xdm_items.specs.FunctionArguments.Arguments.{and_then, as_some}
use Rattle.xt_atoms.specs.declared.faults.ValueFault.{ValueFault}
use Rattle.xt_atoms.specs.declared.faults.ValueFault.TheVariants.{Error, Memory}
use Rattle.lazy_seq.specs.NodeWalks.Moves.{given}
use Rattle.lazy_seq.specs.Flow.{Flow}
use Rattle.lazy_seq.specs.Integers.{integers}
use Rattle.operator_values.specs.Operands.{optional_atom, of_both, of_one}

abbrev pub number_of : Option AtomValue → Result (Option ℤ) Code
number_of None = Ok None
number_of (Some a) = as_some (integer_operand a)

-- at most one atom, which is an integer or an untyped text that spells one
unfoldable pub optional_number : List Item → Result (Option ℤ) Code
optional_number xs = and_then (optional_atom xs) number_of

-- the value of two integers; the left operand is settled whole before the right one
abbrev pub of_numbers :
    (ℤ → ℤ → Result (List Item) Code) → List Item → List Item → Result (List Item) Code
of_numbers value xs ys =
    and_then (optional_number xs) (λ m. and_then (optional_number ys) (of_both value m))

abbrev pub number_list : Result ℤ Code → Result (List Item) Code
number_list number = and_then number (λ n. Ok (of_integer n))

-- `+` `-` `*` `idiv` `mod`
unfoldable pub arithmetic_value : ArithOp → List Item → List Item → Result (List Item) Code
arithmetic_value op xs ys = of_numbers (λ m n. number_list (computed op m n)) xs ys

-- `a to b`
unfoldable pub range_value : List Item → List Item → Result (List Item) Code
range_value xs ys = of_numbers (λ m n. Ok (integers m n)) xs ys

-- `-a`
unfoldable pub negated_value : List Item → Result (List Item) Code
negated_value xs =
    and_then (optional_number xs) (of_one (λ n. number_list (computed Sub (pos 0) n)))

-- `+a`
unfoldable pub signed_value : List Item → Result (List Item) Code
signed_value xs = and_then (optional_number xs) (of_one (λ n. Ok (of_integer n)))

-- a call answers a sequence of these items or this error, unless memory runs out
abbrev pub AnswersItems : Result (List Item) Code → Result Flow ValueFault → Type 0
AnswersItems o (Ok seq) = o ≡ Ok (given seq.moves)
AnswersItems o (Err (Error code)) = o ≡ Err code
AnswersItems o (Err (Memory e)) = Unit {0}
