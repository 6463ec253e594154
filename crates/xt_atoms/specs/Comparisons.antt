-- Comparisons of two atoms (XPath 2.0, 3.5.1 and 3.5.2).
use Rattle.std.specs.Prelude.{ℕ, List, Bool, not, ◌&&◌, Result, Ok, Err}
use Rattle.std.specs.Cmp.Lexicographic.{slice_cmp}
use Rattle.std.specs.declared.cmp.Ordering.{Ordering}
use Rattle.std.specs.Ordering.{nat_cmp, int_cmp, bool_cmp, is_eq, is_ne, is_lt, is_le, is_gt, is_ge}
use Rattle.std.specs.Str.{bytes_eq}
use Rattle.xt_names.specs.declared.codes.Code.{Code}
use Rattle.xt_names.specs.declared.kinds.CompareOp.{CompareOp}
use Rattle.xt_names.specs.declared.kinds.CompareOp.TheVariants.{Eq, Ne, Lt, Le, Gt, Ge}
use Rattle.xt_names.specs.declared.names.Name.{Name}
use Rattle.xt_atoms.specs.Casts.{wrong_type, spelled_value}
use Rattle.xt_atoms.specs.Lexical.{integer_of, boolean_of}
use Rattle.xt_atoms.specs.declared.atoms.Atom.{Atom}
use Rattle.xt_atoms.specs.declared.atoms.Atom.TheVariants as atom

-- whether the comparison is true of two values that stand in this order
unfoldable pub holds : CompareOp → Ordering → Bool
holds Eq order = is_eq order
holds Ne order = is_ne order
holds Lt order = is_lt order
holds Le order = is_le order
holds Gt order = is_gt order
holds Ge order = is_ge order

-- the order by code points
unfoldable pub text_order : List ℕ → List ℕ → Ordering
text_order a b = slice_cmp nat_cmp a b

-- the prefixes do not count
unfoldable pub same_name : Name → Name → Bool
same_name a b = bytes_eq a.uri b.uri && bytes_eq a.local b.local

-- names are equal or not, and have no order
unfoldable pub name_comparison : CompareOp → Name → Name → Result Bool Code
name_comparison Eq a b = Ok (same_name a b)
name_comparison Ne a b = Ok (not (same_name a b))
name_comparison Lt a b = Err wrong_type
name_comparison Le a b = Err wrong_type
name_comparison Gt a b = Err wrong_type
name_comparison Ge a b = Err wrong_type

-- an untyped operand counts as a text
unfoldable pub value_comparison : CompareOp → Atom → Atom → Result Bool Code
value_comparison op (atom.Str a) (atom.Str b) = Ok (holds op (text_order a b))
value_comparison op (atom.Str a) (atom.Untyped b) = Ok (holds op (text_order a b))
value_comparison op (atom.Untyped a) (atom.Str b) = Ok (holds op (text_order a b))
value_comparison op (atom.Untyped a) (atom.Untyped b) = Ok (holds op (text_order a b))
value_comparison op (atom.Int a) (atom.Int b) = Ok (holds op (int_cmp a b))
value_comparison op (atom.Bool a) (atom.Bool b) = Ok (holds op (bool_cmp a b))
value_comparison op (atom.QName a) (atom.QName b) = name_comparison op a b
value_comparison op _ _ = Err wrong_type

abbrev pub with_operand : {A : Type 0} → Result A Code → (A → Result Bool Code) → Result Bool Code
with_operand (Ok value) f = f value
with_operand (Err code) f = Err code

-- an untyped operand beside an integer or a truth value is cast to its type
unfoldable pub general_comparison : CompareOp → Atom → Atom → Result Bool Code
general_comparison op (atom.Untyped a) (atom.Int b) = with_operand (spelled_value (integer_of a)) (λ n. value_comparison op (atom.Int n) (atom.Int b))
general_comparison op (atom.Int a) (atom.Untyped b) = with_operand (spelled_value (integer_of b)) (λ n. value_comparison op (atom.Int a) (atom.Int n))
general_comparison op (atom.Untyped a) (atom.Bool b) = with_operand (spelled_value (boolean_of a)) (λ t. value_comparison op (atom.Bool t) (atom.Bool b))
general_comparison op (atom.Bool a) (atom.Untyped b) = with_operand (spelled_value (boolean_of b)) (λ t. value_comparison op (atom.Bool a) (atom.Bool t))
general_comparison op a b = value_comparison op a b
