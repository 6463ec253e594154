-- What the function `copy` gives.
use Rattle.std.proofs.Common.{◌≡◌, ℕ, List, [], ◌∷◌, ◌++◌, map, refl, sym, ap, ◌∙◌, subst}
use Rattle.std.proofs.lemmas.Bool.{and_parts}
use Rattle.std.proofs.lemmas.List.{append-nil, map-append}
use Rattle.std.specs.Prelude.{Bool, true, false, not, ◌&&◌, ◌||◌, Option, Some, None, Ok}
use Rattle.std.specs.Prelude.{codes, if◌then◌else◌, slice_get, option_map}
use Rattle.xt_names.specs.Allowed.{is_empty_text}
use Rattle.xt_names.specs.Classes.{is_xml_text, is_ncname_text}
use Rattle.xt_names.specs.Marks.{has_pair, ends_with, begins_white}
use Rattle.xt_names.specs.declared.names.Name.{Name}
use Rattle.xt_types.specs.declared.axes.Axis.{Axis}
use Rattle.xt_types.specs.declared.axes.Axis.TheVariants as axis
use Rattle.xt_types.specs.declared.node_tests.NameTest.TheVariants.{Any}
use Rattle.xt_types.specs.declared.node_tests.Test.{Test}
use Rattle.xt_types.specs.declared.node_tests.Test.TheVariants as test
use Rattle.xt_types.specs.declared.types.ItemType.TheVariants.{Kind}
use Rattle.xt_tree.specs.declared.attributes.Attribute.{Attribute}
use Rattle.xt_tree.specs.declared.trees.Tree.{Tree}
use Rattle.xt_tree.specs.declared.trees.Tree.TheVariants.{Doc, Elem, Text, Comment, Pi, Attr}
use Rattle.xt_tree.specs.Forest.{Forest}
use Rattle.xt_tree.specs.Kinds.{name_of, target_of}
use Rattle.xt_tree.specs.Place.{Place, subtree_at, subtree_below, subtree_of, attribute_tree, has_place}
use Rattle.xt_tree.specs.Place.{subtree_attributes}
use Rattle.xt_tree.specs.Sound.{is_sound_name, are_sound_attributes, are_sound_behind}
use Rattle.xt_tree.specs.Sound.{is_sound_comment, is_sound_pi, is_sound_root, is_sound_tree}
use Rattle.xt_tree.specs.Sound.{is_sound_attribute, is_named_xmlns, is_xml_in_any_case}
use Rattle.xt_tree.specs.TreeView.{trees, string_value_of}
use Rattle.xt_atoms.specs.declared.atoms.Atom.TheVariants as atom
use Rattle.xt_atoms.specs.AtomTexts.{text_of, lexical_qname}
use Rattle.node_tests.specs.Tests.{tree_passes, passes_test, passes_element, passes_attribute}
use Rattle.node_tests.specs.Tests.{passes_name, passes_pi, has_target, is_text, is_comment, is_document}
use Rattle.node_axes.specs.Axes.{axis_nodes, is_reverse}
use Rattle.xdm_items.specs.Conversion.{converted, matched, prepared}
use Rattle.xdm_items.specs.Matching.{matches_type, matches_item, allows_count}
use Rattle.xdm_items.specs.Values.{string_value_below}
use Rattle.xdm_items.specs.declared.items.Item.{Item}
use Rattle.xdm_items.specs.declared.items.Item.TheVariants.{Node, Atom}
use Rattle.lazy_seq.specs.Orders.{in_document_order}
use Rattle.node_axes.specs.StepWalks.Nodes.{kept_by_all}
use Rattle.walk_laws.specs.WayLaws.Ways.{way}
use Rattle.walk_laws.proofs.WayLaws.Nodes.{way_in_order, path_from, at_one}
use Rattle.walk_laws.specs.QuietValues.Given.{at_node}
use Rattle.function_table.specs.declared.builtins.Builtin.TheVariants as function
use Rattle.xdm_items.specs.FunctionArguments.Answers.{of_text}
use Rattle.xdm_items.specs.FunctionArguments.Arguments.{optional_node_argument}
use Rattle.text_functions.specs.NameFunctions.NodeNames.{node_name_of, argument_name, of_optional_name, place_name}
use Rattle.text_functions.specs.NameFunctions.NodeNames.{name_or_target, target_name}
use Rattle.fn_lib.specs.Functions.{function_value, value_of}
use Rattle.node_builder.specs.Made.{Gives as Builds}
use Rattle.node_builder.specs.Trees.{comment_of, pi_of}
use Rattle.node_builder.proofs.SubtreeLemmas.{subtree_sound, own_attributes}
use Rattle.node_builder.proofs.TrimLemmas.{without_white-same}
use Rattle.xt_syntax.specs.declared.exprs.Expr.{Expr}
use Rattle.xt_syntax.specs.declared.exprs.Clause.TheViews.{roll-Expr}
use Rattle.xt_syntax.specs.declared.exprs.Clause.TheOpen.{Comma, Slash, Step, ElemC, AttrC, DocC, If, Call}
use Rattle.xt_syntax.specs.declared.exprs.Clause.TheOpen.{TextC, CommentC, PiC, Computed}
use Rattle.xt_syntax.specs.Layers.{arm_gives}
use Rattle.expr_meaning.specs.Outcomes.Outcome.{Ends, and_then}
use Rattle.expr_meaning.specs.Env.{Env, Meaning, Program, look_up}
use Rattle.expr_meaning.specs.Logic.{choice_of, chosen, truth_at}
use Rattle.expr_meaning.specs.Making.{made, spaced_text, element_made, attribute_made, pi_made}
use Rattle.expr_meaning.specs.Meaning.{meanings, steps, outcome}
use Rattle.expr_meaning.specs.Names.{attribute_name, target_of_text}
use Rattle.expr_meaning.specs.Queries.{body_env}
use Rattle.expr_laws.proofs.Rolled.{rolled_arm, rolled_name}
use Rattle.expr_laws.proofs.Texts.{ArmForm}
use Rattle.carried_exprs.specs.Sights.{item_name, the_item}
use Rattle.query_helpers.specs.Forms.{arm_of, is_of_kind}
use Rattle.query_helpers.specs.CopyBody.{all_along, all_content, own_name, own_string, copy_arms, copy_body}
use Rattle.meaning_laws.specs.SoundValues.Sound.{IsSound}
use Rattle.query_helpers.specs.Helpers.{copied, copied_below}
use Rattle.query_helpers.proofs.Gives.{Gives, Tells, mean, gives_variable, gives_call, tells_kind}
use Rattle.query_helpers.proofs.LastGives.{node_name_called, string_called, string_value}
use Rattle.query_helpers.proofs.Below.{kids_along, attributes_along, all_pass}
use Rattle.query_helpers.specs.Last.{HasPlainKids, IsPlaced}
use Rattle.query_helpers.proofs.CopyContent.{kids_stay, element_again, document_again}
use Rattle.walk_laws.proofs.QuietValues.Names.{tree_there}
use Rattle.xt_names.specs.ExprNames.{library_name}
use Rattle.xt_names.proofs.BoolLemmas.{is_false}

-- an element is no attribute of another one
record OwnPlace (n : Place) (t : Tree) : Type 0 where
  own : n.attribute ≡ None
  here : subtree_at n.tree n.path ≡ Some t

below_own : (o : Option Tree) (a : Option ℕ) (name : Name) (us : List Attribute) (kids : Forest) →
    subtree_below o a ≡ Some (Elem name us kids) → (a ≡ None) × (o ≡ Some (Elem name us kids))
below_own o None name us kids h = (refl, h)
below_own o (Some i) name us kids h = by (slice_get (subtree_attributes o) i) h
  where
    by : (a : Option Attribute) → option_map attribute_tree a ≡ Some (Elem name us kids) →
        (Some i ≡ None) × (o ≡ Some (Elem name us kids))
    by None h = absurd cc
    by (Some a) h = absurd cc

-- names
place_named : (n : Place) (t : Tree) (name : Name) → subtree_of n ≡ Some t →
    name_or_target (name_of t) (target_of t) ≡ Some name → place_name n ≡ Some name
unfolding place_name
place_named n t name e h = rw (e) h

pub name_of_node : (n : Place) (t : Tree) (name : Name) → subtree_of n ≡ Some t →
    name_or_target (name_of t) (target_of t) ≡ Some name →
    function_value function.NodeName ((Node n ∷ []) ∷ []) ≡ Ok (Atom (atom.QName name) ∷ [])
unfolding function_value value_of node_name_of argument_name optional_node_argument converted matched
    prepared matches_type matches_item allows_count tree_passes passes_test
name_of_node n t name e h =
    rw (e) (ap (λ o. Ok (of_optional_name o)) (place_named n t name e h))

one_text : (t : List ℕ) → spaced_text (of_text t) ≡ t
unfolding spaced_text text_of
one_text t = append-nil t

pub attribute_forward : is_reverse axis.Attribute ≡ false
unfolding is_reverse
attribute_forward = refl

child_forward : is_reverse axis.Child ≡ false
unfolding is_reverse
child_forward = refl

-- the nodes of an axis stand in document order
pub in_order : (along : Axis) (n : Place) (ts : List Tree) → is_reverse along ≡ false →
    map subtree_of (axis_nodes along n) ≡ map Some ts →
    in_document_order (map Node (axis_nodes along n)) ≡ map Node (axis_nodes along n)
unfolding kept_by_all
in_order along n ts forward h =
    subst (λ ns. in_document_order (map Node ns) ≡ map Node ns) (all_pass along (axis_nodes along n) ts h)
    (way_in_order (way along test.Node [] n) forward)

-- what a constructor tests
allowed : (name : Name) (t : List ℕ) → is_sound_root (Attr name t) ≡ true → attribute_name name ≡ Ok name
unfolding is_sound_attribute is_named_xmlns
allowed name t h =
    let p = and_parts (is_sound_name name && not (is_named_xmlns name)) (is_xml_text t) h in
    let r = and_parts (is_sound_name name) (not (is_named_xmlns name)) p.0 in
    rw (is_false (is_named_xmlns name) r.1) refl

or_false : (a b : Bool) → not a ≡ true → not b ≡ true → (a || b) ≡ false
or_false true b h g = absurd cc
or_false false b h g = is_false b g

comment_again : (t : List ℕ) → is_sound_root (Comment t) ≡ true → comment_of t ≡ Builds (Comment t)
unfolding is_sound_comment comment_of
comment_again t h =
    let p = and_parts (is_xml_text t && not (has_pair 45 45 t)) (not (ends_with 45 t)) h in
    let r = and_parts (is_xml_text t) (not (has_pair 45 45 t)) p.0 in
    rw (or_false (has_pair 45 45 t) (ends_with 45 t) r.1 p.1) refl

record PiFacts (target t : List ℕ) : Type 0 where
  ncname : is_ncname_text target ≡ true
  other : is_xml_in_any_case target ≡ false
  unpaired : has_pair 63 62 t ≡ false
  dark : begins_white t ≡ false

pi_facts : (target t : List ℕ) → is_sound_root (Pi target t) ≡ true → PiFacts target t
unfolding is_sound_pi
pi_facts target t h =
    let a = and_parts (is_ncname_text target && not (is_xml_in_any_case target) && is_xml_text t && not (has_pair 63 62 t)) (not (begins_white t)) h in
    let b = and_parts (is_ncname_text target && not (is_xml_in_any_case target) && is_xml_text t) (not (has_pair 63 62 t)) a.0 in
    let c = and_parts (is_ncname_text target && not (is_xml_in_any_case target)) (is_xml_text t) b.0 in
    let d = and_parts (is_ncname_text target) (not (is_xml_in_any_case target)) c.0 in
    record {
      ncname = d.0;
      other = is_false (is_xml_in_any_case target) d.1;
      unpaired = is_false (has_pair 63 62 t) b.1;
      dark = is_false (begins_white t) a.1;
    }

target_again : (target t : List ℕ) → is_sound_root (Pi target t) ≡ true →
    target_of_text (lexical_qname [] target) ≡ Ok target
unfolding lexical_qname is_empty_text is_xml_in_any_case
target_again target t h = let f = pi_facts target t h in rw (f.ncname, f.other) refl

pi_again : (target t : List ℕ) → is_sound_root (Pi target t) ≡ true → pi_of target t ≡ Builds (Pi target t)
unfolding pi_of
pi_again target t h =
    let f = pi_facts target t h in
    rw (sym (without_white-same t f.dark), f.unpaired) refl

abbrev arms_by_kind : List (Test × Expr)
arms_by_kind =
    (test.Doc, roll-Expr (DocC the_item))
    ∷ (test.Elem Any, roll-Expr (ElemC own_name all_content))
    ∷ (test.Attr Any, roll-Expr (AttrC own_name own_string))
    ∷ (test.Text, roll-Expr (TextC own_string))
    ∷ (test.Comment, roll-Expr (CommentC own_string))
    ∷ (test.Pi None, roll-Expr (PiC own_name own_string)) ∷ []

abbrev by_kind : Test × Expr → Expr × Expr
by_kind z = (is_of_kind the_item z.0, z.1)

module _ (q : Program) (x : Item) where
  abbrev env : Env
  env = body_env ((item_name, x ∷ []) ∷ [])

  item_given : Gives q the_item env (x ∷ [])
  unfolding look_up
  item_given = gives_variable q item_name env (x ∷ []) refl

  -- one arm after another
  abbrev choice : List (Expr × Expr) → Meaning
  choice arms = choice_of (map (arm_gives meanings (steps q)) (map arm_of arms)) (outcome q the_item)

  arm_is : (a : Expr × Expr) (arms : List (Expr × Expr)) (t : Bool) → Tells q a.0 env t → (k : ℕ) →
      choice (a ∷ arms) env k ≡ chosen (outcome q a.1) (choice arms) env t k
  arm_is a arms t h k =
      let arm : ArmForm = record { test = a.0; then = a.1 } in
      ap (λ (m : Meaning × Meaning). and_then (truth_at m.0 env k) (chosen m.1 (choice arms) env))
      (rolled_arm q arm)
      ∙ ap (λ o. and_then o (chosen (outcome q a.1) (choice arms) env)) (h k)

  kind_told : (wanted : Test) (b : Bool) → matches_item (Kind wanted) x ≡ b →
      Tells q (is_of_kind the_item wanted) env b
  kind_told wanted b h k =
      tells_kind q the_item wanted env x item_given k ∙ ap (λ z. Ends z k) h

  first : (wanted : Test) (e : Expr) (arms : List (Expr × Expr)) →
      matches_item (Kind wanted) x ≡ true → (k : ℕ) →
      choice ((is_of_kind the_item wanted, e) ∷ arms) env k ≡ outcome q e env k
  first wanted e arms h k = arm_is (is_of_kind the_item wanted, e) arms true (kind_told wanted true h) k

  next : (wanted : Test) (e : Expr) (arms : List (Expr × Expr)) →
      matches_item (Kind wanted) x ≡ false → (k : ℕ) →
      choice ((is_of_kind the_item wanted, e) ∷ arms) env k ≡ choice arms env k
  next wanted e arms h k = arm_is (is_of_kind the_item wanted, e) arms false (kind_told wanted false h) k

  -- the parts of a constructor
  string_given : (t : List ℕ) → function_value function.String ((x ∷ []) ∷ []) ≡ Ok (of_text t) →
      Gives q own_string env (of_text t)
  string_given t h =
      gives_call q (library_name (codes "string")) function.String the_item env (x ∷ []) (of_text t)
      string_called item_given h

  abbrev named : Expr
  named = roll-Expr (Call (library_name (codes "node-name")) (the_item ∷ []))

  name_given : (name : Name) →
      function_value function.NodeName ((x ∷ []) ∷ []) ≡ Ok (Atom (atom.QName name) ∷ []) →
      Gives q named env (Atom (atom.QName name) ∷ [])
  name_given name h =
      gives_call q (library_name (codes "node-name")) function.NodeName the_item env (x ∷ [])
      (Atom (atom.QName name) ∷ []) node_name_called item_given h

-- all nodes of an axis, from a node that an expression gives
pub gives_along : (q : Program) (a : Expr) (env : Env) (n : Place) → Gives q a env (Node n ∷ []) →
    (along : Axis) (ts : List Tree) → is_reverse along ≡ false →
    map subtree_of (axis_nodes along n) ≡ map Some ts →
    Gives q (roll-Expr (Slash a (roll-Expr (Step along test.Node [])))) env
    (map Node (axis_nodes along n))
gives_along q a env n is along ts forward h k =
    let order = in_order along n ts forward h in
    mean q (Slash a (roll-Expr (Step along test.Node []))) env k
    ∙ path_from (outcome q a) (outcome q (roll-Expr (Step along test.Node []))) env n
    (axis_nodes along n) k (is k)
    (mean q (Step along test.Node []) (at_node env (at_one n)) k
    ∙ ap (λ ns. Ends (in_document_order (map Node ns)) k) (all_pass along (axis_nodes along n) ts h)
    ∙ ap (λ xs. Ends xs k) order)
    order

module _ (q : Program) (n : Place) where
  abbrev here : Env
  here = env q (Node n)

  along_given : (along : Axis) (ts : List Tree) → is_reverse along ≡ false →
      map subtree_of (axis_nodes along n) ≡ map Some ts →
      Gives q (all_along along) here (map Node (axis_nodes along n))
  along_given along ts forward h =
      gives_along q the_item here n (item_given q (Node n)) along ts forward h

  content_given : (us : List Attribute) (ts : List Tree) →
      map subtree_of (axis_nodes axis.Attribute n) ≡ map Some (map attribute_tree us) →
      map subtree_of (axis_nodes axis.Child n) ≡ map Some ts →
      Gives q all_content here (map Node (axis_nodes axis.Attribute n ++ axis_nodes axis.Child n))
  content_given us ts h g k =
      mean q (Comma (all_along axis.Attribute ∷ all_along axis.Child ∷ [])) here k
      ∙ rw (
        along_given axis.Attribute (map attribute_tree us) attribute_forward h k,
        along_given axis.Child ts child_forward g k,
      ) (ap (λ xs. Ends xs k)
      (ap (λ (z : List Item). map Node (axis_nodes axis.Attribute n) ++ z) (append-nil (map Node (axis_nodes axis.Child n)))
      ∙ sym (map-append Node (axis_nodes axis.Attribute n) (axis_nodes axis.Child n))))

  string_of_node : (t : Tree) → subtree_of n ≡ Some t →
      Gives q own_string here (of_text (string_value_of t))
  string_of_node t e =
      string_given q (Node n) (string_value_of t)
      (string_value (Node n) ∙ ap (λ o. Ok (of_text (string_value_below o))) e)

  name_of_here : (t : Tree) (name : Name) → subtree_of n ≡ Some t →
      name_or_target (name_of t) (target_of t) ≡ Some name →
      Gives q (named q (Node n)) here (Atom (atom.QName name) ∷ [])
  name_of_here t name e h = name_given q (Node n) name (name_of_node n t name e h)

  -- an element
  elem_copied : (name : Name) (us : List Attribute) (kids : Forest) →
      subtree_of n ≡ Some (Elem name us kids) → is_sound_root (Elem name us kids) ≡ true → (k : ℕ) →
      outcome q (roll-Expr (ElemC own_name all_content)) here k ≡ made (Builds (Elem name us kids)) k
  elem_copied name us kids e sound k =
      let o = below_own (subtree_at n.tree n.path) n.attribute name us kids e in
      let p = and_parts (is_sound_name name && are_sound_attributes us) (are_sound_behind false kids) sound in
      let d = own_attributes us (and_parts (is_sound_name name) (are_sound_attributes us) p.0).1 in
      let a = attributes_along n (Elem name us kids) o.0 o.1 in
      let b = kids_along n (Elem name us kids) o.0 o.1 in
      mean q (ElemC own_name all_content) here k
      ∙ ap (λ m. element_made q m (outcome q all_content) here k) (rolled_name q (Computed (named q (Node n))))
      ∙ rw (name_of_here (Elem name us kids) name e refl k, content_given us (trees kids) a b k)
      (ap (λ z. made z k)
      (element_again name us kids (axis_nodes axis.Attribute n ++ axis_nodes axis.Child n) d.1 p.1
      (map-append subtree_of (axis_nodes axis.Attribute n) (axis_nodes axis.Child n)
      ∙ rw (a, b) (sym (map-append Some (map attribute_tree us) (trees kids))))))

  doc_copied : (kids : Forest) → subtree_of n ≡ Some (Doc kids) → is_sound_root (Doc kids) ≡ true →
      (k : ℕ) → outcome q (roll-Expr (DocC the_item)) here k ≡ made (Builds (Doc kids)) k
  doc_copied kids e sound k =
      mean q (DocC the_item) here k
      ∙ rw (item_given q (Node n) k) (ap (λ z. made z k) (document_again kids n sound e))

  attr_copied : (name : Name) (t : List ℕ) → subtree_of n ≡ Some (Attr name t) →
      is_sound_root (Attr name t) ≡ true → (k : ℕ) →
      outcome q (roll-Expr (AttrC own_name own_string)) here k ≡ made (Builds (Attr name t)) k
  attr_copied name t e sound k =
      mean q (AttrC own_name own_string) here k
      ∙ ap (λ m. attribute_made q m (outcome q own_string) here k) (rolled_name q (Computed (named q (Node n))))
      ∙ rw (name_of_here (Attr name t) name e refl k, allowed name t sound, string_of_node (Attr name t) e k)
      (ap (λ z. made (Builds (Attr name z)) k) (one_text t))

  text_copied : (t : List ℕ) → subtree_of n ≡ Some (Text t) → (k : ℕ) →
      outcome q (roll-Expr (TextC own_string)) here k ≡ made (Builds (Text t)) k
  text_copied t e k =
      mean q (TextC own_string) here k
      ∙ rw (string_of_node (Text t) e k) (ap (λ z. made (Builds (Text z)) k) (one_text t))

  comment_copied : (t : List ℕ) → subtree_of n ≡ Some (Comment t) →
      is_sound_root (Comment t) ≡ true → (k : ℕ) →
      outcome q (roll-Expr (CommentC own_string)) here k ≡ made (Builds (Comment t)) k
  comment_copied t e sound k =
      mean q (CommentC own_string) here k
      ∙ rw (string_of_node (Comment t) e k)
      (ap (λ z. made (comment_of z) k) (one_text t) ∙ ap (λ z. made z k) (comment_again t sound))

  pi_copied : (target t : List ℕ) → subtree_of n ≡ Some (Pi target t) →
      is_sound_root (Pi target t) ≡ true → (k : ℕ) →
      outcome q (roll-Expr (PiC own_name own_string)) here k ≡ made (Builds (Pi target t)) k
  pi_copied target t e sound k =
      mean q (PiC own_name own_string) here k
      ∙ ap (λ m. pi_made m (outcome q own_string) here k) (rolled_name q (Computed (named q (Node n))))
      ∙ rw (
        name_of_here (Pi target t) (target_name target) e refl k,
        target_again target t sound,
        string_of_node (Pi target t) e k,
      )
      (ap (λ z. made (pi_of target z) k) (one_text t) ∙ ap (λ z. made z k) (pi_again target t sound))

  -- a test tells the kind
  passed : (wanted : Test) (t : Tree) (b : Bool) → subtree_of n ≡ Some t →
      passes_test axis.Itself wanted t ≡ b → matches_item (Kind wanted) (Node n) ≡ b
  unfolding matches_item tree_passes
  passed wanted t b e h = rw (e) h

  abbrev pick : Tree → List (Test × Expr) → Expr
  pick t [] = the_item
  pick t (z ∷ arms) = if passes_test axis.Itself z.0 t then z.1 else pick t arms

  picked : (t : Tree) → subtree_of n ≡ Some t → (arms : List (Test × Expr)) (k : ℕ) →
      choice q (Node n) (map by_kind arms) here k ≡ outcome q (pick t arms) here k
  picked t e [] k = refl
  picked t e (z ∷ arms) k = by (passes_test axis.Itself z.0 t) refl (picked t e arms)
    where
      by : (b : Bool) → passes_test axis.Itself z.0 t ≡ b → ((j : ℕ) →
          choice q (Node n) (map by_kind arms) here j ≡ outcome q (pick t arms) here j) →
          choice q (Node n) (map by_kind (z ∷ arms)) here k
          ≡ outcome q (if b then z.1 else pick t arms) here k
      by true h more = first q (Node n) z.0 z.1 (map by_kind arms) (passed z.0 t true e h) k
      by false h more =
          next q (Node n) z.0 z.1 (map by_kind arms) (passed z.0 t false e h) k ∙ more k

  kind_copied : (t : Tree) → subtree_of n ≡ Some t → is_sound_root t ≡ true → (k : ℕ) →
      outcome q (pick t arms_by_kind) here k ≡ made (Builds t) k
  unfolding passes_test passes_element passes_attribute passes_name passes_pi has_target is_text is_comment
      is_document
  kind_copied (Doc kids) e s k = doc_copied kids e s k
  kind_copied (Elem name us kids) e s k = elem_copied name us kids e s k
  kind_copied (Attr name t) e s k = attr_copied name t e s k
  kind_copied (Text t) e s k = text_copied t e k
  kind_copied (Comment t) e s k = comment_copied t e s k
  kind_copied (Pi target t) e s k = pi_copied target t e s k

-- an atom
module _ (q : Program) (a : _) where
  no_kind : (wanted : Test) → matches_item (Kind wanted) (Atom a) ≡ false
  unfolding matches_item
  no_kind wanted = refl

  no_arms : (arms : List (Test × Expr)) (k : ℕ) →
      choice q (Atom a) (map by_kind arms) (env q (Atom a)) k
      ≡ Ends (Atom a ∷ []) k
  no_arms [] k = item_given q (Atom a) k
  no_arms (z ∷ arms) k =
      next q (Atom a) z.0 z.1 (map by_kind arms) (no_kind z.0) k
      ∙ no_arms arms k

pub copy_given : (q : Program) (x : Item) → IsSound x → (k : ℕ) →
    outcome q copy_body (body_env ((item_name, x ∷ []) ∷ [])) k ≡ copied x k
copy_given q (Atom a) h k =
    mean q (If (map arm_of copy_arms) the_item) (env q (Atom a)) k ∙ no_arms q a arms_by_kind k
copy_given q (Node n) h k =
    let p = and_parts (is_sound_tree n.tree) (has_place n) h in
    let t = tree_there n p.1 in
    mean q (If (map arm_of copy_arms) the_item) (env q (Node n)) k
    ∙ picked q n t.0 t.1 arms_by_kind k
    ∙ kind_copied q n t.0 t.1 (subtree_sound n t.0 p.0 t.1) k
    ∙ sym (ap (λ o. copied_below o k) t.1)

-- every node of a sound tree has its place there
plain_kids : (t : Tree) → is_sound_root t ≡ true → HasPlainKids t
plain_kids (Doc kids) h = (kids_stay kids false h).plain
plain_kids (Elem name us kids) h = tt
plain_kids (Text t) h = tt
plain_kids (Comment t) h = tt
plain_kids (Pi target t) h = tt
plain_kids (Attr name t) h = tt

pub sound_placed : (x : Item) → IsSound x → IsPlaced x
sound_placed (Atom a) h = tt
sound_placed (Node n) h =
    let p = and_parts (is_sound_tree n.tree) (has_place n) h in
    let t = tree_there n p.1 in (t.0, t.1, plain_kids t.0 (subtree_sound n t.0 p.0 t.1))
