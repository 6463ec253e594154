-- What the tests of a step upwards give in every program.
use Rattle.std.proofs.Common.{◌≡◌, ℕ, List, [], ◌∷◌, map, refl, ap, ◌∙◌, subst}
use Rattle.std.specs.Prelude.{Bool, true, false, not, ◌&&◌, ◌||◌, codes, Some, Ok}
use Rattle.std.specs.List.{list_all, list_any}
use Rattle.xt_names.specs.declared.kinds.CompareOp.TheVariants.{Eq}
use Rattle.xt_types.specs.declared.axes.Axis.{Axis}
use Rattle.xt_types.specs.declared.axes.Axis.TheVariants as axis
use Rattle.xt_types.specs.declared.node_tests.NameTest.{NameTest}
use Rattle.xt_types.specs.declared.node_tests.NameTest.TheVariants.{Any, Uri, Local, Exact}
use Rattle.xt_types.specs.declared.node_tests.Test.{Test}
use Rattle.xt_types.specs.declared.node_tests.Test.TheVariants as test
use Rattle.xt_tree.specs.declared.trees.Tree.{Tree}
use Rattle.xt_tree.specs.declared.trees.Tree.TheVariants.{Doc, Elem, Text, Comment, Pi, Attr}
use Rattle.xt_tree.specs.Place.{Place, has_place, subtree_of}
use Rattle.xt_atoms.specs.declared.atoms.Atom.TheVariants as atom
use Rattle.xdm_items.specs.declared.items.Item.TheVariants.{Node}
use Rattle.node_tests.specs.Tests.{passes_at, passes_test, tree_passes, passes_attribute}
use Rattle.node_tests.specs.Tests.{passes_name}
use Rattle.node_tests.specs.Tests.{is_document as is_document_test}
use Rattle.function_table.specs.Find.{found, found_in, is_in_fn}
use Rattle.function_table.specs.Table.{joined}
use Rattle.function_table.specs.declared.builtins.Builtin.TheVariants as function
use Rattle.xdm_items.specs.FunctionArguments.Answers.{of_text, of_truth}
use Rattle.xdm_items.specs.FunctionArguments.Arguments.{and_then as result_then}
use Rattle.text_functions.specs.NameFunctions.NodeNames.{namespace_uri_of, uri_text}
use Rattle.fn_lib.specs.Functions.{function_value, value_of}
use Rattle.xt_forms.specs.Quiet.{quiet_call, local_call}
use Rattle.xt_syntax.specs.declared.exprs.Expr.{Expr}
use Rattle.xt_syntax.specs.declared.exprs.Clause.TheViews.{roll-Expr}
use Rattle.xt_syntax.specs.declared.exprs.Clause.TheOpen.{Str, Or, General, Step, Call}
use Rattle.node_axes.specs.StepWalks.Nodes.{Focus, step_nodes}
use Rattle.quiet_meaning.specs.Values.{name_text}
use Rattle.quiet_meaning.specs.Quietly.{Quietly, condition, step, holds_at, is_predicate}
use Rattle.quiet_meaning.specs.Quietly.{has_some, is_truth, compared, compared_with_literal}
use Rattle.quiet_meaning.specs.Quietly.{called, called_with, call_gives, is_attribute_axis}
use Rattle.quiet_meaning.specs.Quietly.{quietly_of}
use Rattle.quiet_meaning.proofs.FormLemmas.{rolled_quietly}
use Rattle.expr_meaning.specs.Outcomes.Outcome.{Ends}
use Rattle.expr_meaning.specs.Env.{Env, Meaning, Program}
use Rattle.expr_meaning.specs.Calls.{called as called_name, library, library_value}
use Rattle.expr_meaning.specs.Meaning.{outcome}
use Rattle.expr_laws.proofs.Rolled.{rolled}
use Rattle.walk_laws.specs.NodeOrders.Counted.{IsCountable}
use Rattle.walk_laws.specs.QuietValues.Given.{as_placed, at_node, given_at, has_value}
use Rattle.walk_laws.proofs.QuietValues.Names.{tree_there, argument_is}
use Rattle.walk_laws.proofs.QuietValues.Truths.{Agrees, AllAgree}
use Rattle.walk_laws.proofs.QuietValues.Whole.{as_given}
use Rattle.match_patterns.specs.Patterns.{is_child_kind, kind_at}
use Rattle.carried_exprs.specs.Sights.{library_call}
use Rattle.pattern_paths.specs.Upwards.{child_tests, name_tests, attribute_tests, kind_tests}
use Rattle.pattern_paths.specs.Upwards.{never}
use Rattle.pattern_paths.specs.Upwards.{may_be_child, self_document, self_attribute, has_text}
use Rattle.pattern_paths.proofs.AxisAny.{itself_any}
use Rattle.pattern_paths.proofs.Kept.{step_any}
use Rattle.pattern_paths.proofs.StepForms.{child_form, never_form, says, uri_at, child_forms}
use Rattle.pattern_paths.proofs.StepForms.{name_forms}
use Rattle.pattern_paths.proofs.StepForms.{attribute_forms, kind_forms}
use Rattle.walk_laws.proofs.QuietValues.Compared.{text_value}
use Rattle.xt_names.specs.ExprNames.{library_name}

-- where two forms give the same, an expression that gives what the one gives gives what the other does
pub agrees_as : (q r : Quietly) (m : Meaning) → Agrees q m → has_value q ≡ true →
    ((f : Focus) → IsCountable f.node → given_at q f ≡ given_at r f) → Agrees r m
agrees_as q r m a v h w env f c k = a v env f c k ∙ ap (λ xs. Ends xs k) (h f c)

-- false()

never_quiet : quietly_of never ≡ condition (λ f. false)
unfolding call_gives quiet_call local_call is_in_fn called
never_quiet = rolled_quietly (Call (library_name (codes "false")) [])

condition_value : (c : Focus → Bool) → has_value (condition c) ≡ true
unfolding has_value
condition_value c = refl

pub condition_predicate : (c : Focus → Bool) → is_predicate (condition c) ≡ true
unfolding is_predicate
condition_predicate c = refl

pub never_agrees : (p : Program) → Agrees never_form (outcome p never)
never_agrees p = subst (λ q. Agrees q (outcome p never)) never_quiet (as_given p never)

-- not(self::document-node() or self::attribute())

step_quiet : (along : Axis) (wanted : Test) → is_attribute_axis along ≡ false →
    quietly_of (roll-Expr (Step along wanted [])) ≡ step (step_nodes along wanted [])
step_quiet along wanted h = rolled_quietly (Step along wanted []) ∙ rw h refl

itself_other : is_attribute_axis axis.Itself ≡ false
unfolding is_attribute_axis
itself_other = refl

abbrev either : Expr
either = roll-Expr (Or (self_document ∷ self_attribute ∷ []))

abbrev kinds_met : Focus → Bool
kinds_met f =
    has_some (step_nodes axis.Itself test.Doc [] f.node)
    || (has_some (step_nodes axis.Itself (test.Attr Any) [] f.node) || false)

either_quiet : quietly_of either ≡ condition kinds_met
unfolding holds_at is_truth
either_quiet =
    rolled_quietly (Or (self_document ∷ self_attribute ∷ []))
    ∙ rw (
      step_quiet axis.Itself test.Doc itself_other,
      step_quiet axis.Itself (test.Attr Any)
          itself_other,
    ) refl

child_quiet : quietly_of may_be_child ≡ condition (λ f. not (kinds_met f))
unfolding call_gives quiet_call local_call is_in_fn called_with holds_at is_truth
child_quiet = rolled_quietly (Call (library_name (codes "not")) (either ∷ []))
    ∙ rw either_quiet refl

has_any : (ns : List Place) → has_some ns ≡ list_any (λ n. true) ns
has_any [] = refl
has_any (n ∷ ns) = refl

and_all : (b : Bool) → ((b && true) && true) ≡ b
and_all true = refl
and_all false = refl

-- `self::` leads to the node where it passes
pub itself_found : (wanted : Test) (n : Place) → has_place n ≡ true →
    has_some (step_nodes axis.Itself wanted [] n) ≡ passes_at axis.Itself wanted n
itself_found wanted n h =
    has_any (step_nodes axis.Itself wanted [] n)
    ∙ step_any (λ m. true) axis.Itself wanted [] tt n
    ∙ itself_any (λ m. (passes_at axis.Itself wanted m && true) && true) n h
    ∙ and_all (passes_at axis.Itself wanted n)

kinds_by_tree : (n : Place) (t : Tree) → subtree_of n ≡ Some t →
    not (passes_at axis.Itself test.Doc n || (passes_at axis.Itself (test.Attr Any) n || false))
    ≡ is_child_kind (kind_at n)
unfolding tree_passes passes_test is_document_test passes_attribute passes_name is_child_kind
kinds_by_tree n (Doc kids) e = rw e refl
kinds_by_tree n (Elem name attributes kids) e = rw e refl
kinds_by_tree n (Text t) e = rw e refl
kinds_by_tree n (Comment t) e = rw e refl
kinds_by_tree n (Pi target t) e = rw e refl
kinds_by_tree n (Attr name t) e = rw e refl

child_met : (n : Place) → has_place n ≡ true →
    not (kinds_met (record { node = n; position = 1; size = 1 })) ≡ is_child_kind (kind_at n)
child_met n h =
    let t = tree_there n h in
    rw (itself_found test.Doc n h, itself_found (test.Attr Any) n h) (kinds_by_tree n t.0 t.1)

child_given : (f : Focus) → IsCountable f.node →
    given_at (condition (λ g. not (kinds_met g))) f ≡ given_at child_form f
unfolding given_at
child_given f c = ap of_truth (child_met f.node c.exists)

pub child_agrees : (p : Program) → Agrees child_form (outcome p may_be_child)
child_agrees p =
    agrees_as (condition (λ f. not (kinds_met f))) child_form (outcome p may_be_child)
    (subst (λ q. Agrees q (outcome p may_be_child)) child_quiet (as_given p may_be_child))
    (condition_value (λ f. not (kinds_met f))) child_given

-- local-name() = "local"

local_quiet : (local : List ℕ) →
    quietly_of (has_text (codes "local-name") local) ≡ says (name_text false) local
unfolding call_gives quiet_call local_call is_in_fn called compared compared_with_literal
local_quiet local =
    rolled_quietly (General Eq (library_call (codes "local-name") []) (roll-Expr (Str local)))
    ∙ rw (rolled_quietly (Call (library_name (codes "local-name")) []), rolled_quietly (Str local))
    refl

local_agrees : (p : Program) (local : List ℕ) →
    Agrees (says (name_text false) local) (outcome p (has_text (codes "local-name") local))
local_agrees p local =
    subst (λ q. Agrees q (outcome p (has_text (codes "local-name") local))) (local_quiet local)
    (as_given p (has_text (codes "local-name") local))

-- namespace-uri() = "uri"

uri_called : called_name (library_name (codes "namespace-uri")) 0 ≡ library function.NamespaceUri
unfolding called_name found found_in joined is_in_fn
uri_called = refl

uri_value : (f : Focus) → IsCountable f.node →
    library_value function.NamespaceUri (Some (as_placed f)) [] ≡ Ok (of_text (uri_at f.node))
unfolding function_value value_of namespace_uri_of
uri_value f c =
    let t = tree_there f.node c.exists in
    ap (λ o. result_then o (λ x. Ok (of_text (uri_text x)))) (argument_is f.node t.0 t.1)

abbrev uri_call : Expr
uri_call = library_call (codes "namespace-uri") []

uri_given : (p : Program) (env : Env) (f : Focus) → IsCountable f.node → (k : ℕ) →
    outcome p uri_call (at_node env f) k ≡ Ends (of_text (uri_at f.node)) k
uri_given p env f c k =
    ap (λ (m : Meaning). m (at_node env f) k)
    (rolled p (Call (library_name (codes "namespace-uri")) []))
    ∙ rw (uri_called, uri_value f c) refl

uri_agrees : (p : Program) (uri : List ℕ) →
    Agrees (says uri_at uri) (outcome p (has_text (codes "namespace-uri") uri))
unfolding given_at
uri_agrees p uri v env f c k =
    ap (λ (m : Meaning). m (at_node env f) k)
    (rolled p (General Eq uri_call (roll-Expr (Str uri))))
    ∙ rw (uri_given p env f c k, rolled p (Str uri), text_value Eq (uri_at f.node) uri) refl

-- all tests of the kind

child_all : (p : Program) (wanted : Test) → AllAgree (child_forms wanted)
    (map (outcome p) (child_tests wanted))
child_all p test.Node = (child_agrees p, tt)
child_all p test.Doc = (child_agrees p, tt)
child_all p (test.Attr names) = (child_agrees p, tt)
child_all p (test.Named names) = tt
child_all p (test.Elem names) = tt
child_all p test.Text = tt
child_all p test.Comment = tt
child_all p (test.Pi target) = tt

name_all : (p : Program) (names : NameTest) → AllAgree (name_forms names)
    (map (outcome p) (name_tests names))
name_all p Any = tt
name_all p (Uri uri) = (uri_agrees p uri, tt)
name_all p (Local local) = (local_agrees p local, tt)
name_all p (Exact name) = tt

attribute_all : (p : Program) (wanted : Test) →
    AllAgree (attribute_forms wanted) (map (outcome p) (attribute_tests wanted))
attribute_all p (test.Named names) = name_all p names
attribute_all p (test.Attr names) = name_all p names
attribute_all p test.Node = tt
attribute_all p test.Text = (never_agrees p, tt)
attribute_all p test.Comment = (never_agrees p, tt)
attribute_all p (test.Pi target) = (never_agrees p, tt)
attribute_all p test.Doc = (never_agrees p, tt)
attribute_all p (test.Elem names) = (never_agrees p, tt)

pub kind_all : (p : Program) (along : Axis) (wanted : Test) →
    AllAgree (kind_forms along wanted) (map (outcome p) (kind_tests along wanted))
unfolding kind_forms kind_tests
kind_all p axis.Attribute wanted = attribute_all p wanted
kind_all p axis.Child wanted = child_all p wanted
kind_all p along wanted = (never_agrees p, tt)

-- .. which are predicates

child_predicates : (wanted : Test) → list_all is_predicate (child_forms wanted) ≡ true
unfolding is_predicate
child_predicates test.Node = refl
child_predicates test.Doc = refl
child_predicates (test.Attr names) = refl
child_predicates (test.Named names) = refl
child_predicates (test.Elem names) = refl
child_predicates test.Text = refl
child_predicates test.Comment = refl
child_predicates (test.Pi target) = refl

name_predicates : (names : NameTest) → list_all is_predicate (name_forms names) ≡ true
unfolding is_predicate
name_predicates Any = refl
name_predicates (Uri uri) = refl
name_predicates (Local local) = refl
name_predicates (Exact name) = refl

attribute_predicates : (wanted : Test) → list_all is_predicate (attribute_forms wanted) ≡ true
unfolding is_predicate
attribute_predicates (test.Named names) = name_predicates names
attribute_predicates (test.Attr names) = name_predicates names
attribute_predicates test.Node = refl
attribute_predicates test.Text = refl
attribute_predicates test.Comment = refl
attribute_predicates (test.Pi target) = refl
attribute_predicates test.Doc = refl
attribute_predicates (test.Elem names) = refl

pub kind_predicates : (along : Axis) (wanted : Test) →
    list_all is_predicate (kind_forms along wanted) ≡ true
unfolding kind_forms is_predicate
kind_predicates axis.Attribute wanted = attribute_predicates wanted
kind_predicates axis.Child wanted = child_predicates wanted
kind_predicates along wanted = refl
