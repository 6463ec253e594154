-- Arithmetic on integers (XPath 2.0, 3.4; XPath and XQuery Functions and Operators, 6.2).
use Rattle.std.specs.Prelude.{ℤ, ◌+ℤ◌, ◌-ℤ◌, ◌*ℤ◌, int_div, int_rem, Result, Ok, Err, if◌then◌else◌}
use Rattle.xt_names.specs.declared.codes.Code.{Code}
use Rattle.xt_names.specs.declared.codes.Code.TheVariants.{Dynamic}
use Rattle.xt_names.specs.declared.codes.DynamicCode.TheVariants.{FOAR0001, FOAR0002}
use Rattle.xt_names.specs.declared.kinds.ArithOp.{ArithOp}
use Rattle.xt_names.specs.declared.kinds.ArithOp.TheVariants.{Add, Sub, Mul, Idiv, Mod}
use Rattle.xt_atoms.specs.Casts.{is_zero, wrong_type, spelled_value}
use Rattle.xt_atoms.specs.Lexical.{integer_of, is_in_range}
use Rattle.xt_atoms.specs.declared.atoms.Atom.{Atom}
use Rattle.xt_atoms.specs.declared.atoms.Atom.TheVariants as atom

-- an untyped operand is cast to xs:integer
unfoldable pub integer_operand : Atom → Result ℤ Code
integer_operand (atom.Str text) = Err wrong_type
integer_operand (atom.Untyped text) = spelled_value (integer_of text)
integer_operand (atom.Int number) = Ok number
integer_operand (atom.Bool truth) = Err wrong_type
integer_operand (atom.QName name) = Err wrong_type

-- the integer, if it is in range
unfoldable pub ranged : ℤ → Result ℤ Code
ranged z = if is_in_range z then Ok z else Err (Dynamic FOAR0002)

-- a quotient is cut towards zero
unfoldable pub quotient : ℤ → ℤ → Result ℤ Code
quotient a b = if is_zero b then Err (Dynamic FOAR0001) else ranged (int_div a b)

-- a remainder has the sign of the first operand
unfoldable pub remainder : ℤ → ℤ → Result ℤ Code
remainder a b = if is_zero b then Err (Dynamic FOAR0001) else Ok (int_rem a b)

unfoldable pub computed : ArithOp → ℤ → ℤ → Result ℤ Code
computed Add a b = ranged (a +ℤ b)
computed Sub a b = ranged (a -ℤ b)
computed Mul a b = ranged (a *ℤ b)
computed Idiv a b = quotient a b
computed Mod a b = remainder a b

abbrev pub with_integer : Result ℤ Code → (ℤ → Result ℤ Code) → Result ℤ Code
with_integer (Ok number) f = f number
with_integer (Err code) f = Err code

-- the first operand is settled before the second
unfoldable pub arithmetic : ArithOp → Atom → Atom → Result ℤ Code
arithmetic op a b = with_integer (integer_operand a) (λ m. with_integer (integer_operand b) (λ n. computed op m n))
