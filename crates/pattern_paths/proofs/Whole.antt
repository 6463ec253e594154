-- An attribute compared with an integer, where one that is no integer compares as false.
use Rattle.std.proofs.Common.{◌≡◌, ℕ, ℤ, List, [], ◌∷◌, map, refl, ap, sym, ◌∙◌, Bool, true, false}
use Rattle.std.specs.Prelude.{not, ◌&&◌, ◌||◌, is_ok, Option, Some, None, Result, Ok, Err}
use Rattle.std.specs.List.{list_all, list_any}
use Rattle.std.proofs.lemmas.Bool.{and_parts}
use Rattle.xt_names.specs.declared.codes.Code.{Code}
use Rattle.xt_names.specs.declared.kinds.AtomType.TheVariants.{Int as IntegerType}
use Rattle.xt_names.specs.declared.kinds.CompareOp.{CompareOp}
use Rattle.xt_types.specs.declared.axes.Axis.TheVariants as axis
use Rattle.xt_types.specs.declared.node_tests.NameTest.{NameTest}
use Rattle.xt_types.specs.declared.node_tests.Test.TheVariants as test
use Rattle.xt_tree.specs.declared.trees.Tree.{Tree}
use Rattle.xt_tree.specs.declared.trees.Tree.TheVariants.{Doc, Elem, Text, Comment, Pi, Attr}
use Rattle.xt_tree.specs.Place.{Place, subtree_of}
use Rattle.xt_atoms.specs.declared.atoms.Atom.{Atom as AtomValue}
use Rattle.xt_atoms.specs.declared.atoms.Atom.TheVariants as atom
use Rattle.xt_atoms.specs.Casts.{cast_of, integer_from, spelled_value, with_value}
use Rattle.xt_atoms.specs.Comparisons.{general_comparison, value_comparison, with_operand}
use Rattle.xt_atoms.specs.Lexical.{integer_of}
use Rattle.xdm_items.specs.Values.{typed_value_below}
use Rattle.xdm_items.specs.declared.items.Item.TheVariants.{Node, Atom}
use Rattle.xdm_items.specs.FunctionArguments.Answers.{of_integer, of_truth}
use Rattle.xdm_items.specs.FunctionArguments.Arguments.{and_then as result_then}
use Rattle.node_tests.specs.Tests.{passes_at, tree_passes, passes_test, passes_principal}
use Rattle.node_tests.specs.Tests.{passes_attribute}
use Rattle.node_axes.specs.Axes.{axis_nodes}
use Rattle.operator_values.specs.Comparisons.{or_next, some_compare, truth_list, general_value}
use Rattle.operator_values.specs.Operands.{atom_of, optional_atom}
use Rattle.operator_values.specs.Types.{castable_value, cast_value}
use Rattle.node_axes.specs.StepWalks.Nodes.{Focus, step_nodes}
use Rattle.quiet_meaning.specs.Values.{compares, some_compares, is_true}
use Rattle.quiet_meaning.specs.Quietly.{Quietly, condition, holds_at, is_predicate}
use Rattle.xt_syntax.specs.declared.exprs.Expr.{Expr}
use Rattle.xt_syntax.specs.declared.exprs.Clause.TheViews.{roll-Expr}
use Rattle.xt_syntax.specs.declared.exprs.Clause.TheOpen.{Int, General, Step, Context, Castable}
use Rattle.expr_meaning.specs.Outcomes.Outcome.{Ends}
use Rattle.expr_meaning.specs.Env.{Env, Meaning, Program}
use Rattle.expr_meaning.specs.Meaning.{outcome}
use Rattle.expr_laws.proofs.Rolled.{rolled}
use Rattle.walk_laws.specs.NodeOrders.Counted.{IsCountable}
use Rattle.walk_laws.specs.QuietValues.Given.{at_node, given_at}
use Rattle.walk_laws.proofs.QuietValues.Truths.{Agrees}
use Rattle.walk_laws.proofs.QuietValues.Steps.{step_gives}
use Rattle.walk_laws.proofs.Members.{AllSame, hold_here}
use Rattle.pattern_paths.specs.Predicates.{integer_castable}
use Rattle.pattern_paths.proofs.AxisAny.{none_any}
use Rattle.pattern_paths.proofs.Kept.{step_any}
use Rattle.xt_names.proofs.ListLemmas.{any_same}

-- `. castable as xs:integer`

abbrev has_integer : Place → Bool
has_integer n = is_ok (cast_value IntegerType false (Node n ∷ []))

abbrev pub whole_form : Quietly
whole_form = condition (λ f. has_integer f.node)

whole_same : AllSame (whole_form ∷ [])
unfolding holds_at
whole_same = (λ n at few again many. refl, tt)

whole_predicate : list_all is_predicate (whole_form ∷ []) ≡ true
unfolding is_predicate
whole_predicate = refl

whole_agrees : (p : Program) → Agrees whole_form (outcome p integer_castable)
unfolding given_at castable_value
whole_agrees p v env f c k =
    ap (λ (m : Meaning). m (at_node env f) k)
    (rolled p (Castable (roll-Expr Context) IntegerType false))
    ∙ rw (rolled p Context) refl

-- one attribute

abbrev typed : Place → AtomValue
typed n = typed_value_below (subtree_of n)

-- the text of an attribute
record IsUntyped (n : Place) : Type 0 where
  text : List ℕ
  is : typed n ≡ atom.Untyped text

untyped_below : (names : NameTest) (n : Place) (t : Tree) → subtree_of n ≡ Some t →
    passes_attribute names t ≡ true → IsUntyped n
unfolding passes_attribute
untyped_below names n (Doc kids) e h = absurd cc
untyped_below names n (Elem name attributes kids) e h = absurd cc
untyped_below names n (Text t) e h = absurd cc
untyped_below names n (Comment t) e h = absurd cc
untyped_below names n (Pi target t) e h = absurd cc
untyped_below names n (Attr name t) e h = record { text = t; is = ap typed_value_below e }

attribute_untyped : (names : NameTest) (n : Place) → passes_at axis.Attribute (test.Named names) n
    ≡ true →
    IsUntyped n
unfolding tree_passes passes_test passes_principal
attribute_untyped names n h = by (subtree_of n) refl h
  where
    by : (o : Option Tree) → subtree_of n ≡ o → tree_passes axis.Attribute (test.Named names) o
        ≡ true →
        IsUntyped n
    by None e g = absurd cc
    by (Some t) e g = untyped_below names n t e g

abbrev spelled : List ℕ → Bool
spelled t = is_ok (spelled_value (integer_of t))

read_result : (r : Result ℤ Code) →
    is_ok (result_then (with_value atom.Int r) (λ b. Ok (Atom b ∷ []))) ≡ is_ok r
read_result (Ok v) = refl
read_result (Err c) = refl

integer_read : (n : Place) (u : IsUntyped n) → has_integer n ≡ spelled u.text
unfolding cast_value optional_atom cast_of integer_from
integer_read n u =
    ap (λ a. is_ok (result_then (cast_of a IntegerType) (λ b. Ok (Atom b ∷ [])))) u.is
    ∙ read_result (spelled_value (integer_of u.text))

module _ (op : CompareOp) (k : ℤ) where
  abbrev compared_to : Place → Bool
  compared_to n = compares op (typed n) (atom.Int k)

  abbrev by_value : ℤ → Result Bool Code
  by_value v = value_comparison op (atom.Int v) (atom.Int k)

  operand_read : (r : Result ℤ Code) → is_ok r ≡ true →
      with_operand r by_value ≡ Ok (is_true (with_operand r by_value))
  unfolding value_comparison is_true
  operand_read (Ok v) h = refl
  operand_read (Err c) h = absurd cc

  operand_needed : (r : Result ℤ Code) → is_true (with_operand r by_value) ≡ true → is_ok r ≡ true
  unfolding is_true
  operand_needed (Ok v) h = refl
  operand_needed (Err c) h = absurd cc

  whole_compares : (n : Place) → IsUntyped n → has_integer n ≡ true →
      general_comparison op (typed n) (atom.Int k) ≡ Ok (compared_to n)
  unfolding general_comparison compares
  whole_compares n u h =
      rw u.is (operand_read (spelled_value (integer_of u.text)) (sym (integer_read n u) ∙ h))

  compares_whole : (n : Place) → IsUntyped n → compared_to n ≡ true → has_integer n ≡ true
  unfolding general_comparison compares
  compares_whole n u h =
      integer_read n u
      ∙ operand_needed (spelled_value (integer_of u.text))
      (sym (ap (λ a. is_true (general_comparison op a (atom.Int k))) u.is) ∙ h)

  -- attributes of which each is an integer

  module _ (names : NameTest) where
    abbrev passes : Place → Bool
    passes m = passes_at axis.Attribute (test.Named names) m

    abbrev fits : Place → Bool
    fits m = passes m && hold_here (whole_form ∷ []) m

    or_found : (r : Result Bool Code) (b d : Bool) (rest : Result Bool Code) → r ≡ Ok b → rest
        ≡ Ok d →
        or_next (or_next r (Ok false)) rest ≡ Ok (b || d)
    or_found r true d rest e h = rw e refl
    or_found r false d rest e h = rw e h

    none_fails : (b d : Bool) → (not b || d) ≡ false → (b ≡ true) × (d ≡ false)
    none_fails true d h = (refl, h)
    none_fails false d h = absurd cc

    fit_parts : (m : Place) → fits m ≡ true → (passes m ≡ true) × (has_integer m ≡ true)
    unfolding holds_at
    fit_parts m h =
        let p = and_parts (passes m) (has_integer m && true) h in
        (p.0, (and_parts (has_integer m) true p.1).0)

    all_compare : (ms : List Place) → list_any (λ m. not (fits m)) ms ≡ false →
        some_compare op (map atom_of (map Node ms)) (atom.Int k ∷ [])
        ≡ Ok (list_any compared_to ms)
    all_compare [] h = refl
    all_compare (m ∷ ms) h =
        let p = none_fails (fits m) (list_any (λ x. not (fits x)) ms) h in
        let q = fit_parts m p.0 in
        or_found _ (compared_to m) (list_any compared_to ms) _
        (whole_compares m (attribute_untyped names m q.0) q.1) (all_compare ms p.1)

    abbrev found : Place → List Place
    found n = step_nodes axis.Attribute (test.Named names) (map holds_at (whole_form ∷ [])) n

    contrary : (b : Bool) → (b && not b) ≡ false
    contrary true = refl
    contrary false = refl

    all_fit : (n : Place) → list_any (λ m. not (fits m)) (found n) ≡ false
    all_fit n =
        step_any (λ m. not (fits m)) axis.Attribute (test.Named names) (whole_form ∷ []) whole_same
        n
        ∙ any_same (λ m. fits m && not (fits m)) (λ m. false) (axis_nodes axis.Attribute n)
        (λ m. contrary (fits m))
        ∙ none_any (axis_nodes axis.Attribute n)

    no_more : (b : Bool) → (b && false) ≡ false
    no_more true = refl
    no_more false = refl

    one_same : (m : Place) → (fits m && compared_to m) ≡ ((passes m && true) && compared_to m)
    unfolding holds_at
    one_same m = by (passes m) refl (compared_to m) refl
      where
        by : (a : Bool) → passes m ≡ a → (b : Bool) → compared_to m ≡ b →
            ((a && (has_integer m && true)) && b) ≡ ((a && true) && b)
        by true e true f = rw (compares_whole m (attribute_untyped names m e) f) refl
        by true e false f = no_more (has_integer m && true)
        by false e b f = refl

    same_found : (n : Place) →
        list_any compared_to (found n)
        ≡ list_any compared_to (step_nodes axis.Attribute (test.Named names) [] n)
    same_found n =
        step_any compared_to axis.Attribute (test.Named names) (whole_form ∷ []) whole_same n
        ∙ any_same (λ m. fits m && compared_to m) (λ m. (passes m && true) && compared_to m)
        (axis_nodes axis.Attribute n) one_same
        ∙ sym (step_any compared_to axis.Attribute (test.Named names) [] tt n)

    abbrev pub nodes : Place → List Place
    nodes n = step_nodes axis.Attribute (test.Named names) [] n

    found_value : (n : Place) →
        general_value op (map Node (found n)) (of_integer k)
        ≡ Ok (of_truth (some_compares op (atom.Int k) (nodes n)))
    unfolding general_value some_compares
    found_value n =
        ap truth_list (all_compare (found n) (all_fit n)) ∙ ap (λ b. Ok (of_truth b))
        (same_found n)

    abbrev pub whole_step : Expr
    whole_step = roll-Expr (Step axis.Attribute (test.Named names) (integer_castable ∷ []))

    step_found : (p : Program) (env : Env) (f : Focus) → IsCountable f.node → (j : ℕ) →
        outcome p whole_step (at_node env f) j ≡ Ends (map Node (found f.node)) j
    step_found p env f c j =
        ap (λ (m : Meaning). m (at_node env f) j)
        (rolled p (Step axis.Attribute (test.Named names) (integer_castable ∷ [])))
        ∙ step_gives axis.Attribute (test.Named names) (whole_form ∷ [])
        (outcome p integer_castable ∷ [])
        (whole_agrees p, tt) whole_predicate env f c j

    -- the comparison
    pub numeric_agrees : (p : Program) →
        Agrees (condition (λ f. some_compares op (atom.Int k) (nodes f.node)))
        (outcome p (roll-Expr (General op whole_step (roll-Expr (Int k)))))
    unfolding given_at
    numeric_agrees p v env f c j =
        ap (λ (m : Meaning). m (at_node env f) j)
        (rolled p (General op whole_step (roll-Expr (Int k))))
        ∙ rw (step_found p env f c j, rolled p (Int k), found_value f.node) refl
