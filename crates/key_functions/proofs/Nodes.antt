-- The places in the function of a key, and the nodes that it goes over.
use Rattle.std.proofs.Common.{◌≡◌, ℕ, List, [], ◌∷◌, map, refl, sym, ap, subst, ◌∙◌}
use Rattle.std.proofs.lemmas.Bool.{and_from}
use Rattle.std.proofs.lemmas.List.{append-nil}
use Rattle.std.proofs.lemmas.Slice.Eq.{bytes_eq-Decides}
use Rattle.std.specs.Prelude.{Bool, true, false, not, ◌&&◌, if◌then◌else◌, codes, Some, None, Ok, Err}
use Rattle.std.specs.Str.{bytes_eq}
use Rattle.xt_names.specs.declared.codes.Code.TheVariants.{Dynamic}
use Rattle.xt_names.specs.declared.codes.DynamicCode.TheVariants.{XPDY0050}
use Rattle.xt_names.specs.declared.names.ExprName.{ExprName}
use Rattle.xt_types.specs.declared.axes.Axis.{Axis}
use Rattle.xt_types.specs.declared.axes.Axis.TheVariants as axis
use Rattle.xt_types.specs.declared.node_tests.Test.TheVariants as test
use Rattle.xt_tree.specs.Place.{Place, subtree_of}
use Rattle.xt_tree.specs.declared.trees.Tree.{Tree}
use Rattle.xt_syntax.specs.declared.exprs.Expr.{Expr}
use Rattle.xt_syntax.specs.declared.exprs.Clause.TheViews.{roll-Expr}
use Rattle.xt_syntax.specs.declared.exprs.Clause.TheOpen.{Comma, Root, Slash, Step}
use Rattle.xdm_items.specs.declared.items.Item.{Item}
use Rattle.xdm_items.specs.declared.items.Item.TheVariants.{Node}
use Rattle.node_axes.specs.Axes.{axis_nodes, is_reverse}
use Rattle.doc_set.specs.Sets.{is_document}
use Rattle.operator_values.specs.Nodes.{is_node}
use Rattle.expr_meaning.specs.Outcomes.Outcome.{Ends, and_then, step_outcome, Every}
use Rattle.expr_meaning.specs.Env.{Env, Program, at_focus, bind_all, look_up}
use Rattle.expr_meaning.specs.Meaning.{outcome}
use Rattle.expr_meaning.specs.Paths.{document_root, path_value, root_place}
use Rattle.expr_meaning.specs.Queries.{body_env}
use Rattle.meaning_laws.proofs.SoundValues.Arguments.{IsSoundPlace}
use Rattle.meaning_laws.proofs.SoundValues.Trees.{tree_part}
use Rattle.meaning_laws.proofs.SoundFunctions.Operators.{axis_kept}
use Rattle.carried_exprs.specs.Sights.{is_own_variable, item_name, made_name, made_uri, the_item}
use Rattle.transform_meaning.specs.Places.{alone}
use Rattle.query_helpers.specs.CopyBody.{all_along}
use Rattle.query_helpers.proofs.CopyGives.{attribute_forward, gives_along, sound_placed}
use Rattle.query_helpers.proofs.Gives.{Gives, mean}
use Rattle.key_functions.specs.KeyBody.{nodes_of_tree, values_name, with_attributes}
use Rattle.key_functions.specs.Keys.{IsFailure, IsKeyPlace}
use Rattle.key_functions.proofs.Same.{failed_then}
use Rattle.key_functions.proofs.Values.{slash_one}
use Rattle.key_functions.proofs.Walk.{with_attributes_of}
use Rattle.xt_names.specs.Lists.{stable_order}
use Rattle.xt_names.specs.ExprNames.{same_name}

-- a name of the stylesheet's own is none that the translation makes up
not_own : (name : ExprName) (local : List ℕ) → is_own_variable name ≡ true →
    same_name (made_name local) name ≡ false
unfolding is_own_variable
not_own name local h = by (bytes_eq made_uri name.uri) refl
  where
    by : (b : Bool) → bytes_eq made_uri name.uri ≡ b → (b && bytes_eq local name.local) ≡ false
    by true e =
        let same : made_uri ≡ name.uri = (bytes_eq-Decides made_uri name.uri).0 e in
        let g : not (bytes_eq made_uri made_uri) ≡ true =
        subst (λ u. not (bytes_eq u made_uri) ≡ true) (sym same) h in
        absurd cc
    by false e = refl

-- at a place where no variable of the stylesheet is bound
abbrev pub HasNoOwn : Env → Type 0
HasNoOwn env = (name : ExprName) → is_own_variable name ≡ true → look_up env.locals name ≡ None

-- a variable of the translation that is bound to a node
pub bound_place : (env : Env) (n : Place) → HasNoOwn env →
    IsKeyPlace (bind_all ((item_name, Node n ∷ []) ∷ []) env) n
unfolding look_up
bound_place env n own = record {
  item = refl;
  own = λ name h. rw (not_own name (codes "item") h) (own name h);
}

-- where the body of the function begins
pub first_place : (n : Place) (xs : List Item) →
    IsKeyPlace (body_env ((item_name, Node n ∷ []) ∷ (values_name, xs) ∷ [])) n
unfolding look_up
first_place n xs = record {
  item = refl;
  own = λ name h. rw (not_own name (codes "item") h, not_own name (codes "values") h) refl;
}

-- the nodes of an axis are there
trees_there : (ns : List Place) → Every IsSoundPlace ns →
    (ts : List Tree) × (map subtree_of ns ≡ map Some ts)
trees_there [] h = ([], refl)
trees_there (n ∷ ns) h =
    let t = sound_placed (Node n) h.0 in let more = trees_there ns h.1 in
    (t.0 ∷ more.0, λ i. t.1 i ∷ more.1 i)

deep_forward : is_reverse axis.DescendantOrSelf ≡ false
unfolding is_reverse
deep_forward = refl

root_alone : (n : Place) → path_value (Node n ∷ []) ≡ Ok (Node n ∷ [])
unfolding is_node stable_order
root_alone n = refl

pub root_sound : (n : Place) → IsSoundPlace n → IsSoundPlace (root_place n)
root_sound n sound = and_from _ _ (tree_part n sound) refl

module _ (q : Program) where
  axis_given : (a : Expr) (env : Env) (n : Place) → Gives q a env (Node n ∷ []) →
      (along : Axis) → is_reverse along ≡ false → IsSoundPlace n →
      Gives q (roll-Expr (Slash a (roll-Expr (Step along test.Node [])))) env
      (map Node (axis_nodes along n))
  axis_given a env n g along forward sound =
      let t = trees_there (axis_nodes along n) (axis_kept along n sound) in
      gives_along q a env n g along t.0 forward t.1

  -- `($x:item, $x:item/attribute::node())`
  pub with_given : (env : Env) (m : Place) → Gives q the_item env (Node m ∷ []) →
      IsSoundPlace m → Gives q with_attributes env (map Node (with_attributes_of m))
  with_given env m g sound k =
      mean q (Comma (the_item ∷ all_along axis.Attribute ∷ [])) env k
      ∙ rw (g k, axis_given the_item env m g axis.Attribute attribute_forward sound k)
      (ap (λ (xs : List Item). Ends (Node m ∷ xs) k)
      (append-nil (map Node (axis_nodes axis.Attribute m))))

  module _ (env : Env) (n : Place) (g : Gives q the_item env (Node n ∷ [])) where
    -- `$x:item/(/)`
    root_is : (k : ℕ) → outcome q (roll-Expr (Slash the_item (roll-Expr Root))) env k
        ≡ and_then (step_outcome (document_root (Node n)) k) (λ ys j. step_outcome (path_value ys) j)
    root_is k =
        mean q (Slash the_item (roll-Expr Root)) env k
        ∙ slash_one (outcome q the_item) (outcome q (roll-Expr Root)) env n k (g k)
        ∙ ap (λ o. and_then o (λ ys j. step_outcome (path_value ys) j))
        (mean q Root (at_focus env (alone (Node n))) k)

    root_given : is_document n.tree ≡ true →
        Gives q (roll-Expr (Slash the_item (roll-Expr Root))) env (Node (root_place n) ∷ [])
    root_given h k =
        root_is k ∙ rw h (ap (λ v. step_outcome v k) (root_alone (root_place n)))

    -- all nodes that are no attributes
    pub nodes_given : is_document n.tree ≡ true → IsSoundPlace n →
        Gives q nodes_of_tree env (map Node (axis_nodes axis.DescendantOrSelf (root_place n)))
    nodes_given h sound =
        axis_given (roll-Expr (Slash the_item (roll-Expr Root))) env (root_place n) (root_given h)
        axis.DescendantOrSelf deep_forward (root_sound n sound)

    -- .. of a tree that is a document's
    pub nodes_fail : is_document n.tree ≡ false → (k : ℕ) →
        IsFailure (outcome q nodes_of_tree env k)
    nodes_fail h k =
        subst IsFailure (sym (mean q (Slash (roll-Expr (Slash the_item (roll-Expr Root)))
        (roll-Expr (Step axis.DescendantOrSelf test.Node []))) env k))
        (failed_then (outcome q (roll-Expr (Slash the_item (roll-Expr Root))) env k) _
        (subst IsFailure (sym (root_is k))
        (subst (λ b. IsFailure (and_then (step_outcome (if b then Ok (Node (root_place n) ∷ [])
        else Err (Dynamic XPDY0050)) k) (λ ys j. step_outcome (path_value ys) j))) (sym h) tt)))
