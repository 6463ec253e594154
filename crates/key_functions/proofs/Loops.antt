-- The body of the function of a key gives what key() finds.
use Rattle.std.proofs.Common.{◌≡◌, ℕ, List, [], ◌∷◌, ◌++◌, map, refl, sym, ap, subst, ◌∙◌}
use Rattle.std.specs.Prelude.{Bool, true, false, filter, if◌then◌else◌, Some, Result, Ok, Err}
use Rattle.xt_names.specs.declared.codes.Code.{Code}
use Rattle.xt_types.specs.declared.axes.Axis.TheVariants as axis
use Rattle.xt_tree.specs.Place.{Place}
use Rattle.xt_atoms.specs.declared.atoms.Atom.{Atom as AtomValue}
use Rattle.xt_syntax.specs.declared.exprs.Expr.{Expr}
use Rattle.xdm_items.specs.declared.items.Item.{Item}
use Rattle.xdm_items.specs.declared.items.Item.TheVariants.{Node, Atom}
use Rattle.node_axes.specs.Axes.{axis_nodes}
use Rattle.order_group.specs.Groups.{atoms_of, has_key}
use Rattle.xt_sheets.specs.declared.sheets.KeyRule.{KeyRule}
use Rattle.key_index.specs.Keys.{key_nodes, put_pairs}
use Rattle.key_index.specs.declared.indexes.KeyPair.{KeyPair}
use Rattle.doc_set.specs.Sets.{DocumentSet, is_document}
use Rattle.match_patterns.specs.Patterns.{pattern_matches}
use Rattle.xdm_items.specs.FunctionArguments.Arguments.{and_then as result_then}
use Rattle.expr_meaning.specs.Outcomes.Outcome.{and_then, for_each, Every}
use Rattle.expr_meaning.proofs.OutcomesLemmas.Relations.{every_append}
use Rattle.expr_meaning.proofs.OutcomesLemmas.Steps.{each_map}
use Rattle.expr_meaning.specs.Env.{Env, Program, bind_all, look_up}
use Rattle.expr_meaning.specs.Meaning.{outcome}
use Rattle.expr_meaning.specs.Paths.{root_place}
use Rattle.expr_laws.specs.Carrier.{OnValue}
use Rattle.meaning_laws.proofs.SoundValues.Arguments.{IsSoundPlace}
use Rattle.meaning_laws.proofs.SoundFunctions.Operators.{axis_kept}
use Rattle.carried_exprs.specs.Sights.{item_name, nothing, the_item}
use Rattle.transform_meaning.specs.Keys.{all_nodes, each_value, key_pairs, pairs_by, pairs_for}
use Rattle.transform_meaning.specs.Keys.{use_value}
use Rattle.query_helpers.specs.Forms.{for_in, if_of}
use Rattle.query_helpers.proofs.Gives.{Gives, for_of, gives_variable}
use Rattle.key_functions.specs.KeyBody.{KeyParts, has_value, key_body, nodes_of_tree, values_name}
use Rattle.key_functions.specs.KeyBody.{with_attributes}
use Rattle.key_functions.specs.Keys.{AreDeclared, IsFailure, IsKeyPlace, SameAs}
use Rattle.key_functions.proofs.Compare.{keeps, node_same}
use Rattle.key_functions.proofs.Found.{found_is, if_any, nodes_apart, AreOf}
use Rattle.key_functions.proofs.Nodes.{HasNoOwn, bound_place, nodes_fail, nodes_given, root_sound}
use Rattle.key_functions.proofs.Nodes.{with_given}
use Rattle.key_functions.proofs.Same.{each_gathered, each_same, failed_then}
use Rattle.key_functions.proofs.Walk.{nodes_gathered, with_attributes_of}

for_own : (n : Place) (xs : List Item) → AreOf n (pairs_for n xs)
for_own n [] = tt
for_own n (x ∷ xs) = (refl, for_own n xs)

used_own : (n : Place) (r : Result (List Item) Code) →
    OnValue (AreOf n) (result_then r (λ xs. Ok (pairs_for n xs)))
used_own n (Ok xs) = for_own n xs
used_own n (Err code) = tt

by_own : (documents : DocumentSet) (n : Place) (d : KeyRule) →
    OnValue (AreOf n) (pairs_by documents n d)
by_own documents n d = by (pattern_matches d.pattern n)
  where
    by : (b : Bool) → OnValue (AreOf n) (if b
        then result_then (use_value documents d.key n) (λ xs. Ok (pairs_for n xs)) else Ok [])
    by true = used_own n (use_value documents d.key n)
    by false = tt

both_own : (n : Place) (r q : Result (List KeyPair) Code) → OnValue (AreOf n) r →
    OnValue (AreOf n) q →
    OnValue (AreOf n) (result_then r (λ ys. result_then q (λ zs. Ok (ys ++ zs))))
both_own n (Ok ys) (Ok zs) h g = every_append (λ p. p.node ≡ n) ys zs h g
both_own n (Ok ys) (Err code) h g = tt
both_own n (Err code) q h g = tt

all_own : (documents : DocumentSet) (ds : List KeyRule) (n : Place) →
    OnValue (AreOf n) (each_value (pairs_by documents n) ds)
all_own documents [] n = tt
all_own documents (d ∷ ds) n =
    both_own n (pairs_by documents n d) (each_value (pairs_by documents n) ds)
    (by_own documents n d) (all_own documents ds n)

atoms_are : (vs : List AtomValue) → atoms_of (map Atom vs) ≡ vs
atoms_are [] = refl
atoms_are (v ∷ vs) = ap (λ (z : List AtomValue). v ∷ z) (atoms_are vs)

module _ (q : Program) (documents : DocumentSet) (ds : List KeyRule) (cs : List KeyParts)
    (h : AreDeclared q documents ds cs) (vs : List AtomValue) where
  abbrev pairs : Place → Result (List KeyPair) Code
  pairs n = each_value (pairs_by documents n) ds

  abbrev kept : Place → Result (List Item) Code
  kept n = result_then (pairs n) (λ ps. Ok (if_any (keeps vs) n ps))

  abbrev test_one : Expr
  test_one = if_of (has_value cs) the_item nothing

  abbrev HoldsValues : Env → Type 0
  HoldsValues env = look_up env.locals values_name ≡ Some (map Atom vs)

  still_held : (env : Env) (x : Item) → HoldsValues env →
      HoldsValues (bind_all ((item_name, x ∷ []) ∷ []) env)
  unfolding look_up
  still_held env x values = values

  one_same : (env : Env) → HasNoOwn env → HoldsValues env → (m : Place) → IsSoundPlace m →
      (k : ℕ) →
      SameAs (kept m) (outcome q test_one (bind_all ((item_name, Node m ∷ []) ∷ []) env) k) k
  one_same env own values m sound k =
      node_same q vs (bind_all ((item_name, Node m ∷ []) ∷ []) env)
      (still_held env (Node m) values) documents ds cs h m sound (bound_place env m own) k

  item_there : (env : Env) (n : Place) → IsKeyPlace env n → Gives q the_item env (Node n ∷ [])
  item_there env n place = gives_variable q item_name env (Node n ∷ []) place.item

  -- a loop over nodes
  over_nodes : (a b : Expr) (env : Env) (ms : List Place) (r : Place → Result (List Item) Code) →
      Gives q a env (map Node ms) → Every IsSoundPlace ms →
      ((m : Place) → IsSoundPlace m → (k : ℕ) →
      SameAs (r m) (outcome q b (bind_all ((item_name, Node m ∷ []) ∷ []) env) k) k) → (k : ℕ) →
      SameAs (each_value r ms) (outcome q (for_in item_name a b) env k) k
  over_nodes a b env ms r g all each k =
      subst (λ o. SameAs (each_value r ms) o k)
      (sym (for_of q item_name a b env k
      ∙ ap (λ o. and_then o (for_each (λ x. outcome q b (bind_all ((item_name, x ∷ []) ∷ []) env))))
      (g k)
      ∙ each_map (λ x. outcome q b (bind_all ((item_name, x ∷ []) ∷ []) env)) Node ms k))
      (each_same IsSoundPlace r
      (λ m. outcome q b (bind_all ((item_name, Node m ∷ []) ∷ []) env)) each ms all k)

  inner_same : (env : Env) (m : Place) → IsSoundPlace m → IsKeyPlace env m → HoldsValues env →
      (k : ℕ) → SameAs (each_value kept (with_attributes_of m))
      (outcome q (for_in item_name with_attributes test_one) env k) k
  inner_same env m sound place values =
      over_nodes with_attributes test_one env (with_attributes_of m) kept
      (with_given q env m (item_there env m place) sound)
      (sound, axis_kept axis.Attribute m sound) (one_same env place.own values)

  module _ (env : Env) (n : Place) (sound : IsSoundPlace n) (place : IsKeyPlace env n)
      (values : HoldsValues env) where
    abbrev inside : Place → Env
    inside m = bind_all ((item_name, Node m ∷ []) ∷ []) env

    outer_same : is_document n.tree ≡ true → (k : ℕ) →
        SameAs (each_value (λ m. each_value kept (with_attributes_of m))
        (axis_nodes axis.DescendantOrSelf (root_place n))) (outcome q (key_body cs) env k) k
    outer_same doc =
        over_nodes nodes_of_tree (for_in item_name with_attributes test_one) env
        (axis_nodes axis.DescendantOrSelf (root_place n))
        (λ m. each_value kept (with_attributes_of m))
        (nodes_given q env n (item_there env n place) doc sound)
        (axis_kept axis.DescendantOrSelf (root_place n) (root_sound n sound))
        (λ m s. inner_same (inside m) m s (bound_place env m place.own)
        (still_held env (Node m) values))

    found_same : each_value (λ m. each_value kept (with_attributes_of m))
        (axis_nodes axis.DescendantOrSelf (root_place n))
        ≡ result_then (key_pairs documents ds (root_place n))
        (λ ps. Ok (key_nodes ps (map Atom vs)))
    unfolding key_pairs
    found_same =
        each_gathered kept with_attributes_of (axis_nodes axis.DescendantOrSelf (root_place n))
        ∙ ap (each_value kept) (nodes_gathered n)
        ∙ sym (found_is (keeps vs) pairs (all_own documents ds) (all_nodes (root_place n))
        (nodes_apart (root_place n)))
        ∙ ap (λ us. result_then (key_pairs documents ds (root_place n))
        (λ ps. Ok (put_pairs [] (filter (λ p. has_key p.value us) ps)))) (sym (atoms_are vs))

    pub body_same : is_document n.tree ≡ true → (k : ℕ) →
        SameAs (result_then (key_pairs documents ds (root_place n))
        (λ ps. Ok (key_nodes ps (map Atom vs)))) (outcome q (key_body cs) env k) k
    body_same doc k =
        subst (λ r. SameAs r (outcome q (key_body cs) env k) k) found_same (outer_same doc k)

    pub body_fails : is_document n.tree ≡ false → (k : ℕ) →
        IsFailure (outcome q (key_body cs) env k)
    body_fails doc k =
        subst IsFailure (sym (for_of q item_name nodes_of_tree
        (for_in item_name with_attributes test_one) env k))
        (failed_then (outcome q nodes_of_tree env k) _
        (nodes_fail q env n (item_there env n place) doc k))
