-- Lists of one value.
use Rattle.std.specs.Prelude.{ℕ, ℤ, List, [], ◌∷◌, Bool, Option, Some, None}
use Rattle.xt_atoms.specs.declared.atoms.Atom.TheVariants as atom
use Rattle.xdm_items.specs.declared.items.Item.{Item}
use Rattle.xdm_items.specs.declared.items.Item.TheVariants.{Atom}

abbrev pub of_text : List ℕ → List Item
of_text text = Atom (atom.Str text) ∷ []

abbrev pub of_integer : ℤ → List Item
of_integer number = Atom (atom.Int number) ∷ []

abbrev pub of_truth : Bool → List Item
of_truth truth = Atom (atom.Bool truth) ∷ []

-- the empty list where there is no text
abbrev pub of_optional_text : Option (List ℕ) → List Item
of_optional_text None = []
of_optional_text (Some text) = of_text text
