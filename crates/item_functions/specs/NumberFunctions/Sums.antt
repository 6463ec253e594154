-- Sums and absolute values (XQuery 1.0 and XPath 2.0 Functions and Operators, 6.4.1 and 15.4.5).
-- Where the Recommendation makes a double of an untyped atom, an integer stands here.
use Rattle.std.specs.Prelude.{suc, ℤ, pos, negsuc, ◌+ℤ◌, List, [], ◌∷◌, Result, Ok, Err}
use Rattle.xt_names.specs.declared.codes.Code.{Code}
use Rattle.xt_names.specs.declared.codes.Code.TheVariants.{Dynamic}
use Rattle.xt_names.specs.declared.codes.DynamicCode.TheVariants.{FORG0006}
use Rattle.xt_atoms.specs.Arithmetic.{ranged, with_integer}
use Rattle.xt_atoms.specs.Casts.{spelled_value}
use Rattle.xt_atoms.specs.Lexical.{integer_of}
use Rattle.xt_atoms.specs.declared.atoms.Atom.TheVariants as atom
use Rattle.xdm_items.specs.declared.items.Item.{Item}
use Rattle.xdm_items.specs.declared.items.Item.TheVariants.{Node, Atom}

-- the values are of no kind that has such a value
abbrev pub wrong_kind : Code
wrong_kind = Dynamic FORG0006

-- what an item adds to a sum; an untyped atom is cast to an integer
unfoldable pub summand : Item → Result ℤ Code
summand (Atom (atom.Str text)) = Err wrong_kind
summand (Atom (atom.Untyped text)) = spelled_value (integer_of text)
summand (Atom (atom.Int number)) = Ok number
summand (Atom (atom.Bool truth)) = Err wrong_kind
summand (Atom (atom.QName name)) = Err wrong_kind
summand (Node n) = Err wrong_kind

abbrev pub plus : ℤ → Result ℤ Code → Result ℤ Code
plus n (Ok m) = Ok (n +ℤ m)
plus n (Err code) = Err code

-- the sum without a limit, or the error of the first item that adds nothing
abbrev pub total : List Item → Result ℤ Code
total [] = Ok (pos 0)
total (item ∷ items) = with_integer (summand item) (λ n. plus n (total items))

-- the sum is an integer, which has 64 bits; that of no item is 0
unfoldable pub sum_of : List Item → Result ℤ Code
sum_of items = with_integer (total items) ranged

abbrev pub magnitude : ℤ → ℤ
magnitude (pos n) = pos n
magnitude (negsuc n) = pos (suc n)

-- the absolute value
unfoldable pub absolute : ℤ → Result ℤ Code
absolute n = ranged (magnitude n)
