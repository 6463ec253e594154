-- Instructions that make one node that is no attribute.
use Rattle.std.proofs.Common.{◌≡◌, ℕ, List, [], ◌++◌, refl}
use Rattle.std.specs.Prelude.{Bool, true, false, if◌then◌else◌, ◌||◌, nat_eq, Some}
use Rattle.xt_names.specs.declared.codes.Code.TheVariants.{Dynamic}
use Rattle.xt_names.specs.declared.codes.DynamicCode.TheVariants.{XTLM0001, XTLM0002, XQDY0026, XQDY0072}
use Rattle.xt_names.specs.declared.names.Name.{Name}
use Rattle.xt_names.specs.Marks.{has_pair, ends_with}
use Rattle.xt_tree.specs.TreeView.{forest_of}
use Rattle.xt_tree.specs.declared.trees.Tree.{Tree}
use Rattle.xt_tree.specs.declared.trees.Tree.TheVariants as tree
use Rattle.xdm_items.specs.declared.items.Item.{Item}
use Rattle.node_builder.specs.Complex.{complex_content}
use Rattle.node_builder.specs.Made.{Made, Gives, Fails as Refuses, made_then}
use Rattle.node_builder.specs.Trees.{numbered, limited, is_within_limits, element_of, document_of}
use Rattle.node_builder.specs.Trees.{comment_of, pi_of, without_white}
use Rattle.node_builder.specs.declared.contents.Content.{Content}
use Rattle.node_builder.specs.declared.kinds.Duplicates.TheVariants.{KeepLast}
use Rattle.node_builder.specs.declared.kinds.Holder.TheVariants.{Element, Document}
use Rattle.expr_meaning.specs.Outcomes.Outcome.{Outcome, and_then, step_outcome, OnEnds, Every}
use Rattle.expr_meaning.specs.Outcomes.Outcome.{Anything}
use Rattle.expr_meaning.proofs.OutcomesLemmas.Relations.{nothing_known}
use Rattle.expr_meaning.proofs.OutcomesLemmas.Steps.{then_on}
use Rattle.expr_meaning.specs.Env.{Meaning}
use Rattle.expr_meaning.specs.Making.{made, made_outcome}
use Rattle.transform_meaning.specs.Making.{attribute_in_tree, new_element, new_text}
use Rattle.transform_meaning.specs.Making.{value_made, comment_made, pi_made, element_made, literal_made}
use Rattle.transform_meaning.specs.Making.{document_with, element_items, AttributeMeaning}
use Rattle.transform_meaning.specs.Names.{NameMeaning}
use Rattle.transform_meaning.specs.Texts.{TextMeaning}
use Rattle.lockstep.proofs.Parts.{IsContentNode, MakesNodes}

abbrev IsContent : Tree → Type 0
IsContent t = attribute_in_tree (Some t) ≡ []

abbrev OnMade : Made Tree → Type 0
OnMade (Gives t) = IsContent t
OnMade (Refuses code) = Unit {0}

numbered_node : (t : Made Tree) → OnMade t → (k : ℕ) → OnMade (numbered k t)
unfolding numbered limited
numbered_node (Refuses code) h k = by (nat_eq k 0xFFFF_FFFF_FFFF_FFFF)
  where
    by : (b : Bool) → OnMade (if b then Refuses (Dynamic XTLM0001) else Refuses code)
    by true = tt
    by false = tt
numbered_node (Gives t) h k = by (nat_eq k 0xFFFF_FFFF_FFFF_FFFF) (is_within_limits t)
  where
    by : (b d : Bool) → OnMade (if b then Refuses (Dynamic XTLM0001)
        else (if d then Gives t else Refuses (Dynamic XTLM0002)))
    by true d = tt
    by false true = h
    by false false = tt

made_node : (t : Made Tree) → OnMade t → (k : ℕ) → OnEnds (Every IsContentNode) (made t k)
made_node t h k = by (numbered k t) (numbered_node t h k)
  where
    by : (u : Made Tree) → OnMade u → OnEnds (Every IsContentNode) (made_outcome k u)
    by (Gives u) g = (g, tt)
    by (Refuses code) g = tt

element_node : (name : Name) (xs : List Item) → OnMade (element_of KeepLast name xs)
unfolding element_of
element_node name xs = by (complex_content KeepLast Element xs)
  where
    by : (c : Made Content) →
        OnMade (made_then c (λ content. Gives (tree.Elem name content.attributes (forest_of content.kids))))
    by (Gives c) = refl
    by (Refuses code) = tt

document_node : (xs : List Item) → OnMade (document_of KeepLast xs)
unfolding document_of
document_node xs = by (complex_content KeepLast Document xs)
  where
    by : (c : Made Content) → OnMade (made_then c (λ content. Gives (tree.Doc (forest_of content.kids))))
    by (Gives c) = refl
    by (Refuses code) = tt

comment_node : (t : List ℕ) → OnMade (comment_of t)
unfolding comment_of
comment_node t = by (has_pair 45 45 t || ends_with 45 t)
  where
    by : (b : Bool) → OnMade (if b then Refuses (Dynamic XQDY0072) else Gives (tree.Comment t))
    by true = tt
    by false = refl

pi_node : (target t : List ℕ) → OnMade (pi_of target t)
unfolding pi_of
pi_node target t = by (has_pair 63 62 (without_white t))
  where
    by : (b : Bool) →
        OnMade (if b then Refuses (Dynamic XQDY0026) else Gives (tree.Pi target (without_white t)))
    by true = tt
    by false = refl

-- what comes last decides
behind : {A : Type 0} (o : Outcome A) (go : A → ℕ → Outcome (List Item)) →
    ((v : A) (k : ℕ) → OnEnds (Every IsContentNode) (go v k)) →
    OnEnds (Every IsContentNode) (and_then o go)
behind o go h =
    then_on Anything (Every IsContentNode) o go (nothing_known o) (λ v k u. h v k)

new_element_node : (name : Name) (xs : List Item) (k : ℕ) →
    OnEnds (Every IsContentNode) (new_element name xs k)
new_element_node name xs k =
    behind (step_outcome (element_items xs) k) _ (λ ys j. made_node (element_of KeepLast name ys)
    (element_node name ys) j)

pub value_nodes : (m : TextMeaning) → MakesNodes (value_made m)
value_nodes m e k = behind (m e k) new_text (λ t j. made_node (Gives (tree.Text t)) refl j)

pub comment_nodes : (m : TextMeaning) → MakesNodes (comment_made m)
comment_nodes m e k = behind (m e k) _ (λ t j. made_node (comment_of t) (comment_node t) j)

pub pi_nodes : (n m : TextMeaning) → MakesNodes (pi_made n m)
pi_nodes n m e k =
    behind (n e k) _ (λ target j. behind (m e j) _ (λ t i. made_node (pi_of target t) (pi_node target t) i))

pub document_nodes : (m : Meaning) → MakesNodes (document_with m)
document_nodes m e k = behind (m e k) _ (λ xs j. made_node (document_of KeepLast xs) (document_node xs) j)

pub element_nodes : (n : NameMeaning) (m : Meaning) → MakesNodes (element_made n m)
element_nodes n m e k =
    behind (n e k) _ (λ name j. behind (m e j) _ (λ xs i. new_element_node name xs i))

pub literal_nodes : (name : Name) (attributes : List AttributeMeaning) (m : Meaning) →
    MakesNodes (literal_made name attributes m)
literal_nodes name attributes m e k =
    behind _ _ (λ ys j. behind (m e j) _ (λ xs i. new_element_node name (ys ++ xs) i))
