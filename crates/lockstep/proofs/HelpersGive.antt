-- Where a call is left, the helper functions of the query do what is asked of them.
use Rattle.std.proofs.Common.{◌≡◌, ◌^◌, ℕ, suc, List, [], ◌∷◌, length, refl, sym, ap, ◌∙◌}
use Rattle.std.proofs.lemmas.Bool.{ltb-true, ltb-false}
use Rattle.std.specs.Prelude.{Bool, true, false, ◌||◌, flat_map, if◌then◌else◌, nat_lt, Option, Some, None}
use Rattle.std.specs.Prelude.{Ok, Err}
use Rattle.std.specs.List.{list_all, list_any}
use Rattle.xt_names.specs.Classes.{is_xml_text}
use Rattle.xt_names.specs.declared.codes.Code.{Code}
use Rattle.xt_names.specs.declared.codes.Code.TheVariants.{Dynamic, SheetDynamic}
use Rattle.xt_names.specs.declared.codes.DynamicCode.TheVariants.{FOAR0002}
use Rattle.xt_names.specs.declared.codes.SheetDynamicCode.TheVariants.{XTTE0520}
use Rattle.xt_types.specs.declared.axes.Axis.TheVariants as axis
use Rattle.xt_types.specs.declared.node_tests.Test.TheVariants.{Text as TextTest}
use Rattle.xt_tree.specs.Place.{subtree_of}
use Rattle.xt_tree.specs.Sound.{names_differ}
use Rattle.xt_tree.specs.declared.trees.Tree.{Tree}
use Rattle.xt_tree.specs.declared.trees.Tree.TheVariants as tree
use Rattle.xt_atoms.specs.Casts.{wrong_type}
use Rattle.node_tests.specs.Tests.{passes_test, is_text, tree_passes}
use Rattle.xdm_items.specs.Matching.{matches_item}
use Rattle.xdm_items.specs.declared.items.Item.{Item}
use Rattle.xdm_items.specs.declared.items.Item.TheVariants.{Node, Atom}
use Rattle.node_builder.specs.Simple.{part_of, part_below, simple_content}
use Rattle.operator_values.specs.Nodes.{is_node}
use Rattle.expr_meaning.specs.Outcomes.Outcome.{step_outcome, Every}
use Rattle.expr_meaning.specs.Outcomes.Follow.{Relation, IsCarrying}
use Rattle.xdm_items.specs.FunctionArguments.Answers.{of_text}
use Rattle.expr_meaning.specs.Env.{Binding, Program}
use Rattle.expr_meaning.specs.Queries.{Run, program_at}
use Rattle.meaning_laws.specs.SoundValues.Sound.{IsSound}
use Rattle.query_helpers.specs.Helpers.{Has, copied, copied_below, is_text_item}
use Rattle.query_helpers.specs.Last.{attributes_in, kept_behind, last_of, stays}
use Rattle.query_helpers.specs.LastBody.{last_function}
use Rattle.query_helpers.specs.CopyBody.{copy_function}
use Rattle.query_helpers.specs.NodesBody.{nodes_function}
use Rattle.query_helpers.specs.SimpleBody.{simple_function}
use Rattle.query_helpers.proofs.HelperCalls.{copy_gives, last_gives, nodes_gives, simple_gives}
use Rattle.transform_meaning.specs.Making.{attribute_in, copied_item, copied_tree}
use Rattle.node_builder.specs.Made.{Gives}
use Rattle.xdm_items.specs.FunctionArguments.Arguments.{and_then as result_then}
use Rattle.transform_meaning.specs.Texts.{has_text_node, is_run, simple_text}
use Rattle.transform_laws.proofs.Making.{made_meets}
use Rattle.translated_forms.specs.Places.{Table}
use Rattle.lockstep.specs.Helpers.{HelpersCarry, kept_items, simple_items}
use Rattle.lockstep.proofs.Elements.{all_placed, attributes_same}
use Rattle.lockstep.proofs.Frame.{frame}
use Rattle.lockstep.proofs.Makes.{sheets}

pub record HasHelpers (run : Run) : Type 0 where
  pub nodes : Has run nodes_function
  pub last : Has run last_function
  pub simple : Has run simple_function
  pub copy : Has run copy_function

-- text nodes, as both tell them
text_below : (o : Option Tree) → tree_passes axis.Itself TextTest o ≡ is_run (part_below o)
unfolding tree_passes passes_test is_text
text_below None = refl
text_below (Some (tree.Doc kids)) = refl
text_below (Some (tree.Elem name attributes kids)) = refl
text_below (Some (tree.Text t)) = refl
text_below (Some (tree.Comment t)) = refl
text_below (Some (tree.Pi target t)) = refl
text_below (Some (tree.Attr name t)) = refl

text_item : (x : Item) → is_text_item x ≡ is_run (part_of x)
unfolding matches_item
text_item (Node n) = text_below (subtree_of n)
text_item (Atom a) = refl

text_items : (xs : List Item) → list_any is_text_item xs ≡ has_text_node xs
text_items [] = refl
text_items (x ∷ xs) = λ i. text_item x i || text_items xs i

module _ (like : Code → Code → Type 0) (lax : (a b : Code) → like a b) (rel : Relation)
    (carries : IsCarrying like rel) (t : Table) where
  nodes_meet : (xs : List Item) → Every IsSound xs → (k : ℕ) → rel (List Item) (Every IsSound)
      (step_outcome (if list_all is_node xs then Ok xs else Err (SheetDynamic XTTE0520)) k)
      (step_outcome (if list_all is_node xs then Ok xs else Err wrong_type) k)
  nodes_meet xs g k = by (list_all is_node xs)
    where
      by : (b : Bool) → rel (List Item) (Every IsSound)
          (step_outcome (if b then Ok xs else Err (SheetDynamic XTTE0520)) k)
          (step_outcome (if b then Ok xs else Err wrong_type) k)
      by true = carries.ends _ _ _ _ g
      by false = carries.errors _ _ _ _ (lax _ _)

  -- what is kept is sound
  kept_sound : (before : Option Item) (xs : List Item) → Every IsSound xs →
      Every IsSound (kept_behind before xs)
  kept_sound before [] g = tt
  kept_sound before (x ∷ xs) g = by (stays before x xs) (kept_sound (Some x) xs g.1)
    where
      by : (b : Bool) → Every IsSound (kept_behind (Some x) xs) → Every IsSound
          (if b then x ∷ kept_behind (Some x) xs else kept_behind (Some x) xs)
      by true h = (g.0, h)
      by false h = h

  last_sound : (xs : List Item) → Every IsSound xs → Every IsSound (last_of xs)
  last_sound xs g = by (names_differ (attributes_in xs))
    where
      by : (b : Bool) → Every IsSound (if b then xs else kept_behind None xs)
      by true = g
      by false = kept_sound None xs g

  simple_sound : (separator : List ℕ) (xs : List Item) → is_xml_text separator ≡ true →
      Every IsSound xs → Every IsSound (of_text (simple_content separator xs))
  simple_sound separator xs h g =
      ((sheets like lax rel carries t).simple separator xs (λ s. h) g tt, tt)

  copy_same : (x : Item) (k : ℕ) → copied x k ≡ copied_item x k
  copy_same (Atom a) k = refl
  copy_same (Node n) k = by (subtree_of n)
    where
      by : (o : Option Tree) → copied_below o k ≡ copied_tree o k
      by None = refl
      by (Some u) = refl

  copy_sound : (x : Item) → IsSound x → (k : ℕ) →
      rel (List Item) (Every IsSound) (copied_item x k) (copied_item x k)
  copy_sound (Atom a) g k = carries.ends _ _ _ _ (g, tt)
  copy_sound (Node n) g k = by (subtree_of n) refl
    where
      by : (o : Option Tree) → subtree_of n ≡ o →
          rel (List Item) (Every IsSound) (copied_tree o k) (copied_tree o k)
      by None e = carries.ends _ _ _ _ tt
      by (Some u) e =
          made_meets (frame like lax rel carries t) (Gives u) k
          ((sheets like lax rel carries t).copy n g u e k)

  module _ (run : Run) (has : HasHelpers run) (globals : List Binding) (n : ℕ) where
    abbrev q : Program
    q = program_at run globals (suc n)

    last_meets : (xs : List Item) → Every IsSound xs → (k : ℕ) → rel (List Item) (Every IsSound)
        (step_outcome (kept_items xs) k) (q.calls last_function.name (xs ∷ []) k)
    last_meets xs g k =
        by (names_differ (flat_map attribute_in xs)) refl (nat_lt (length xs) (2 ^ 63)) refl
      where
        same : names_differ (flat_map attribute_in xs) ≡ names_differ (attributes_in xs)
        same = ap names_differ (attributes_same xs)

        by : (b : Bool) → names_differ (flat_map attribute_in xs) ≡ b → (d : Bool) →
            nat_lt (length xs) (2 ^ 63) ≡ d → rel (List Item) (Every IsSound)
            (step_outcome (if b then Ok (last_of xs)
            else (if d then Ok (last_of xs) else Err (Dynamic FOAR0002))) k)
            (q.calls last_function.name (xs ∷ []) k)
        by true e d f =
            rw ((last_gives run globals n has.last).same xs (sym same ∙ e) k)
            (carries.ends _ _ _ _ (last_sound xs g))
        by false e true f =
            rw ((last_gives run globals n has.last).few xs (all_placed xs g)
            (ltb-true (length xs) (2 ^ 63) f) k)
            (carries.ends _ _ _ _ (last_sound xs g))
        by false e false f =
            rw ((last_gives run globals n has.last).many xs (sym same ∙ e)
            (ltb-false (length xs) (2 ^ 63) f) k)
            (carries.fails _ _ _)

    simple_meets : (xs : List Item) → Every IsSound xs → (separator : List ℕ) →
        is_xml_text separator ≡ true → (k : ℕ) → rel (List Item) (Every IsSound)
        (step_outcome (simple_items separator xs) k)
        (q.calls simple_function.name (xs ∷ of_text separator ∷ []) k)
    unfolding simple_text
    simple_meets xs g separator h k =
        by (has_text_node xs) refl (nat_lt (length xs) (2 ^ 63)) refl
      where
        by : (b : Bool) → has_text_node xs ≡ b → (d : Bool) → nat_lt (length xs) (2 ^ 63) ≡ d →
            rel (List Item) (Every IsSound)
            (step_outcome (result_then (if b
            then (if d then Ok (simple_content separator xs) else Err (Dynamic FOAR0002))
            else Ok (simple_content separator xs)) (λ u. Ok (of_text u))) k)
            (q.calls simple_function.name (xs ∷ of_text separator ∷ []) k)
        by true e true f =
            rw ((simple_gives run globals n has.simple).few xs separator
            (ltb-true (length xs) (2 ^ 63) f) k)
            (carries.ends _ _ _ _ (simple_sound separator xs h g))
        by true e false f =
            rw ((simple_gives run globals n has.simple).many xs separator (text_items xs ∙ e)
            (ltb-false (length xs) (2 ^ 63) f) k)
            (carries.fails _ _ _)
        by false e d f =
            rw ((simple_gives run globals n has.simple).plain xs separator (text_items xs ∙ e) k)
            (carries.ends _ _ _ _ (simple_sound separator xs h g))

    -- one call that is left is enough
    pub helpers_carry : HelpersCarry rel q
    helpers_carry = record {
      nodes = λ xs g k. rw (nodes_gives run globals n has.nodes xs (all_placed xs g) k) (nodes_meet xs g k);
      last = last_meets;
      simple = simple_meets;
      copy = λ x g k. rw (copy_gives run globals n has.copy x g k, copy_same x k) (copy_sound x g k);
    }
