-- New elements and texts are no attributes.
use Rattle.std.proofs.Common.{◌≡◌, ℕ, List, [], refl}
use Rattle.std.specs.Prelude.{Bool, true, false, Some, nat_eq, if◌then◌else◌}
use Rattle.xt_names.specs.declared.codes.Code.{Code}
use Rattle.xt_names.specs.declared.codes.Code.TheVariants.{Dynamic}
use Rattle.xt_names.specs.declared.codes.DynamicCode.TheVariants.{XTLM0001, XTLM0002}
use Rattle.xt_names.specs.declared.names.Name.{Name}
use Rattle.xt_tree.specs.TreeView.{forest_of}
use Rattle.xt_tree.specs.declared.trees.Tree.{Tree}
use Rattle.xt_tree.specs.declared.trees.Tree.TheVariants as tree
use Rattle.xdm_items.specs.declared.items.Item.{Item}
use Rattle.node_builder.specs.Complex.{complex_content}
use Rattle.node_builder.specs.declared.contents.Content.{Content}
use Rattle.node_builder.specs.declared.kinds.Duplicates.{Duplicates}
use Rattle.node_builder.specs.declared.kinds.Duplicates.TheVariants.{KeepLast}
use Rattle.expr_meaning.specs.Outcomes.Outcome.{Anything, step_outcome}
use Rattle.expr_meaning.proofs.OutcomesLemmas.Relations.{nothing_known}
use Rattle.expr_meaning.proofs.OutcomesLemmas.Steps.{then_on}
use Rattle.transform_meaning.specs.Making.{element_items, new_element}
use Rattle.node_builder.specs.declared.kinds.Holder.TheVariants.{Element}
use Rattle.node_builder.specs.Made.{Made, Gives, Fails as Refuses, made_then}
use Rattle.node_builder.specs.Trees.{numbered, limited, element_of, is_within_limits}
use Rattle.expr_meaning.specs.Outcomes.Outcome.{OnEnds}
use Rattle.expr_meaning.specs.Making.{made, made_outcome}
use Rattle.transform_meaning.specs.Making.{attribute_in_tree}
use Rattle.way_back.proofs.Plain.{AllPlain}

-- a tree that is no attribute
pub given_plain : (t : Tree) → attribute_in_tree (Some t) ≡ [] → (k : ℕ) → OnEnds AllPlain (made (Gives t) k)
unfolding numbered limited
given_plain t h k = by (nat_eq k 0xFFFF_FFFF_FFFF_FFFF) (is_within_limits t)
  where
    by : (b d : Bool) → OnEnds AllPlain (made_outcome k (if b then Refuses (Dynamic XTLM0001)
        else (if d then Gives t else Refuses (Dynamic XTLM0002))))
    by true d = tt
    by false true = (h, tt)
    by false false = tt

refused_plain : (c : Code) (k : ℕ) → OnEnds AllPlain (made (Refuses c) k)
unfolding numbered
refused_plain c k = by (nat_eq k 0xFFFF_FFFF_FFFF_FFFF)
  where
    by : (b : Bool) → OnEnds AllPlain (made_outcome k (if b then Refuses (Dynamic XTLM0001) else Refuses c))
    by true = tt
    by false = tt

content_plain : (name : Name) (m : Made Content) (k : ℕ) → OnEnds AllPlain
    (made (made_then m (λ c. Gives (tree.Elem name c.attributes (forest_of c.kids)))) k)
content_plain name (Gives c) k = given_plain (tree.Elem name c.attributes (forest_of c.kids)) refl k
content_plain name (Refuses c) k = refused_plain c k

pub element_plain : (side : Duplicates) (name : Name) (xs : List Item) (k : ℕ) →
    OnEnds AllPlain (made (element_of side name xs) k)
unfolding element_of
element_plain side name xs k = content_plain name (complex_content side Element xs) k

pub text_plain : (t : List ℕ) (k : ℕ) → OnEnds AllPlain (made (Gives (tree.Text t)) k)
text_plain t k = given_plain (tree.Text t) refl k

pub new_plain : (name : Name) (xs : List Item) (k : ℕ) → OnEnds AllPlain (new_element name xs k)
new_plain name xs k =
    then_on Anything AllPlain (step_outcome (element_items xs) k) _
    (nothing_known (step_outcome (element_items xs) k)) (λ ys j u. element_plain KeepLast name ys j)
