-- Casts (XPath and XQuery Functions and Operators, 17).
use Rattle.std.specs.Prelude.{◌≡◌, zero, suc, Bool, true, false, not, Option, Some, None, Result, Ok, Err, ℤ, pos, negsuc}
use Rattle.xt_names.specs.declared.codes.Code.{Code}
use Rattle.xt_names.specs.declared.codes.Code.TheVariants.{Dynamic}
use Rattle.xt_names.specs.declared.codes.DynamicCode.TheVariants.{FORG0001, XPTY0004}
use Rattle.xt_names.specs.declared.kinds.AtomType.{AtomType}
use Rattle.xt_names.specs.declared.kinds.AtomType.TheVariants as kind
use Rattle.xt_atoms.specs.AtomTexts.{text_of}
use Rattle.xt_atoms.specs.Lexical.{integer_of, boolean_of}
use Rattle.xt_atoms.specs.declared.atoms.Atom.{Atom}
use Rattle.xt_atoms.specs.declared.atoms.Atom.TheVariants as atom
use Rattle.xt_atoms.specs.declared.faults.ValueFault.{ValueFault}
use Rattle.xt_atoms.specs.declared.faults.ValueFault.TheVariants.{Error, Memory}

-- the text does not spell a value of the type
abbrev pub no_value : Code
no_value = Dynamic FORG0001

-- there is no cast between the two types, or no comparison
abbrev pub wrong_type : Code
wrong_type = Dynamic XPTY0004

-- what a text spells, where it spells a value
abbrev pub spelled_value : {A : Type 0} → Option A → Result A Code
spelled_value (Some value) = Ok value
spelled_value None = Err no_value

abbrev pub number_of_truth : Bool → ℤ
number_of_truth true = pos 1
number_of_truth false = pos 0

abbrev pub is_zero : ℤ → Bool
is_zero (pos zero) = true
is_zero (pos (suc n)) = false
is_zero (negsuc n) = false

unfoldable pub integer_from : Atom → Result ℤ Code
integer_from (atom.Str text) = spelled_value (integer_of text)
integer_from (atom.Untyped text) = spelled_value (integer_of text)
integer_from (atom.Int number) = Ok number
integer_from (atom.Bool truth) = Ok (number_of_truth truth)
integer_from (atom.QName name) = Err wrong_type

unfoldable pub boolean_from : Atom → Result Bool Code
boolean_from (atom.Str text) = spelled_value (boolean_of text)
boolean_from (atom.Untyped text) = spelled_value (boolean_of text)
boolean_from (atom.Int number) = Ok (not (is_zero number))
boolean_from (atom.Bool truth) = Ok truth
boolean_from (atom.QName name) = Err wrong_type

abbrev pub with_value : {A : Type 0} → (A → Atom) → Result A Code → Result Atom Code
with_value make (Ok value) = Ok (make value)
with_value make (Err code) = Err code

-- the cast to a type that a cast may have; there is none to xs:QName or xs:anyAtomicType
unfoldable pub cast_of : Atom → AtomType → Result Atom Code
cast_of a kind.Str = Ok (atom.Str (text_of a))
cast_of a kind.Untyped = Ok (atom.Untyped (text_of a))
cast_of a kind.Int = with_value atom.Int (integer_from a)
cast_of a kind.Bool = with_value atom.Bool (boolean_from a)
cast_of a kind.QName = Err wrong_type
cast_of a kind.Any = Err wrong_type

-- a call answers this value or this error, unless memory runs out
abbrev pub Answers : {A : Type 0} → Result A Code → Result A ValueFault → Type 0
Answers o (Ok value) = o ≡ Ok value
Answers o (Err (Error code)) = o ≡ Err code
Answers o (Err (Memory e)) = Unit {0}
