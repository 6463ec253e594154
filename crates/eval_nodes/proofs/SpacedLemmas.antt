-- The text of a value is the simple content of its atoms.
use Rattle.std.proofs.Common.{◌≡◌, ℕ, refl, ap, List, [], ◌∷◌, map}
use Rattle.xt_atoms.specs.AtomTexts.{text_of}
use Rattle.xdm_items.specs.declared.items.Item.{Item}
use Rattle.xdm_items.specs.declared.items.Item.TheVariants.{Node, Atom}
use Rattle.xdm_items.specs.Values.{atomized, atomized_item}
use Rattle.node_builder.specs.Simple.{part_of, part_text, merged_runs, without_empty_runs}
use Rattle.node_builder.specs.Simple.{joined_with, simple_content}
use Rattle.expr_meaning.specs.OperatorValues.Operands.{atom_of}
use Rattle.expr_meaning.specs.Making.{spaced_text}

abbrev texts_of : List Item → List (List ℕ)
texts_of xs =
    map part_text (merged_runs (without_empty_runs (map part_of (map atomized_item xs))))

atom_texts : (xs : List Item) → texts_of xs ≡ map (λ x. text_of (atom_of x)) xs
atom_texts [] = refl
atom_texts (Node n ∷ xs) = ap (λ ts. text_of (atom_of (Node n)) ∷ ts) (atom_texts xs)
atom_texts (Atom a ∷ xs) = ap (λ ts. text_of a ∷ ts) (atom_texts xs)

pub atoms_spaced : (xs : List Item) → simple_content (32 ∷ []) (atomized xs) ≡ spaced_text xs
unfolding simple_content atomized spaced_text
atoms_spaced xs = ap (joined_with (32 ∷ [])) (atom_texts xs)
