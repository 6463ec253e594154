-- The effective boolean value of a sequence (XPath 2.0, 2.4.3).
use Rattle.std.specs.Prelude.{List, [], ◌∷◌, Bool, true, false, not, Result, Ok, Err}
use Rattle.xt_names.specs.Allowed.{is_empty_text}
use Rattle.xt_names.specs.declared.codes.Code.{Code}
use Rattle.xt_names.specs.declared.codes.Code.TheVariants.{Dynamic}
use Rattle.xt_names.specs.declared.codes.DynamicCode.TheVariants.{FORG0006}
use Rattle.xt_atoms.specs.Casts.{is_zero}
use Rattle.xt_atoms.specs.declared.atoms.Atom.{Atom as AtomValue}
use Rattle.xt_atoms.specs.declared.atoms.Atom.TheVariants.{Str, Untyped, Int, Bool as Truth, QName}
use Rattle.xdm_items.specs.declared.items.Item.{Item}
use Rattle.xdm_items.specs.declared.items.Item.TheVariants.{Node, Atom}

abbrev pub no_truth : Code
no_truth = Dynamic FORG0006

-- a text is true where it has a character, and an integer where it is not 0; a name has no truth value
unfoldable pub truth_of_atom : AtomValue → Result Bool Code
truth_of_atom (Str text) = Ok (not (is_empty_text text))
truth_of_atom (Untyped text) = Ok (not (is_empty_text text))
truth_of_atom (Int number) = Ok (not (is_zero number))
truth_of_atom (Truth truth) = Ok truth
truth_of_atom (QName name) = Err no_truth

-- a sequence that begins with a node is true, whatever follows; one that begins with an atom has no more items
unfoldable pub truth_of : List Item → Result Bool Code
truth_of [] = Ok false
truth_of (Node n ∷ rest) = Ok true
truth_of (Atom a ∷ []) = truth_of_atom a
truth_of (Atom a ∷ b ∷ rest) = Err no_truth
