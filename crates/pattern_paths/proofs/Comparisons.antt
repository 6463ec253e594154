-- What a comparison of an attribute with an integer is made of.
use Rattle.std.proofs.Common.{◌≡◌, ℕ, ℤ, List, [], map, refl, ap, ap₂, sym, ◌∙◌, Bool, true, false}
use Rattle.std.specs.Prelude.{◌&&◌, if◌then◌else◌}
use Rattle.std.specs.List.{list_all}
use Rattle.std.proofs.lemmas.Bool.{and_parts}
use Rattle.xt_names.specs.declared.kinds.CompareOp.{CompareOp}
use Rattle.xt_types.specs.declared.axes.Axis.{Axis}
use Rattle.xt_types.specs.declared.axes.Axis.TheVariants as axis
use Rattle.xt_types.specs.declared.node_tests.NameTest.{NameTest}
use Rattle.xt_types.specs.declared.node_tests.Test.{Test}
use Rattle.xt_types.specs.declared.node_tests.Test.TheVariants as test
use Rattle.xt_tree.specs.Place.{Place}
use Rattle.xt_syntax.specs.declared.exprs.Expr.{Expr}
use Rattle.xt_syntax.specs.declared.exprs.Clause.TheViews.{out-Expr}
use Rattle.xt_syntax.specs.declared.exprs.Clause.TheOpen.{Int, Step}
use Rattle.node_axes.specs.StepWalks.Nodes.{Focus, step_nodes}
use Rattle.quiet_meaning.specs.Quietly.{Quietly, integer, literal, position, last, text_of}
use Rattle.quiet_meaning.specs.Quietly.{count_of}
use Rattle.quiet_meaning.specs.Quietly.{attribute, step, path, numeric, other}
use Rattle.quiet_meaning.specs.Quietly.{quietly_of, is_predicate, holds_at}
use Rattle.quiet_meaning.specs.Quietly.{stepped, compared}
use Rattle.quiet_meaning.specs.Quietly.{compared_with_integer, compared_with_literal}
use Rattle.quiet_meaning.specs.Quietly.{compared_with_last}
use Rattle.quiet_meaning.specs.Quietly.{is_attribute_name, is_attribute_axis, is_named, is_bare}
use Rattle.quiet_meaning.proofs.FormLemmas.{gives_quietly}
use Rattle.carried_exprs.specs.Forms.{ExprForm}
use Rattle.pattern_paths.proofs.Origins.{an_integer, a_step, origin, may_give}
use Rattle.pattern_paths.proofs.Origins.{its_origin, quiet_by_form}

pub record IsNumeric (op : CompareOp) (q r : Quietly) (c : Focus → Bool) : Type 0 where
  pub number : ℤ
  pub path : Place → List Place
  pub right : r ≡ integer number
  pub left : q ≡ attribute path

integer_numeric : (op : CompareOp) (n : ℤ) (q : Quietly) (c : Focus → Bool) →
    compared_with_integer op n q ≡ numeric c → IsNumeric op q (integer n) c
unfolding compared_with_integer
integer_numeric op n position c h = absurd cc
integer_numeric op n last c h = absurd cc
integer_numeric op n (count_of g) c h = absurd cc
integer_numeric op n (attribute g) c h = record { number = n; path = g; right = refl; left = refl }
integer_numeric op n q c h = absurd cc

literal_numeric : (op : CompareOp) (t : List ℕ) (q : Quietly) (c : Focus → Bool) →
    compared_with_literal op t q ≡ numeric c → ⊥
unfolding compared_with_literal
literal_numeric op t (text_of g) c h = absurd cc
literal_numeric op t (attribute g) c h = absurd cc
literal_numeric op t (step g) c h = absurd cc
literal_numeric op t (path g) c h = absurd cc
literal_numeric op t q c h = absurd cc

last_numeric : (op : CompareOp) (q : Quietly) (c : Focus → Bool) →
    compared_with_last op q ≡ numeric c → ⊥
unfolding compared_with_last
last_numeric op position c h = absurd cc
last_numeric op q c h = absurd cc

pub is_numeric_of : (op : CompareOp) (q r : Quietly) (c : Focus → Bool) → compared op q r
    ≡ numeric c →
    IsNumeric op q r c
unfolding compared
is_numeric_of op q (integer n) c h = integer_numeric op n q c h
is_numeric_of op q (literal t) c h = absurd (literal_numeric op t q c h)
is_numeric_of op q last c h = absurd (last_numeric op q c h)
is_numeric_of op q r c h = absurd cc

-- .. as an expression

integer_origin : (n : ℤ) → origin (integer n) ≡ an_integer
unfolding origin
integer_origin n = refl

attribute_origin : (g : Place → List Place) → origin (attribute g) ≡ a_step
unfolding origin
attribute_origin g = refl

integer_form : (e : Expr) (n : ℤ) (x : ExprForm) → out-Expr e ≡ x → may_give x an_integer ≡ true →
    gives_quietly x ≡ integer n → out-Expr e ≡ Int n
integer_form e n (Int m) h g q = h ∙ ap Int (same q)
  where
    same : integer m ≡ integer n → m ≡ n
    same f = cc
integer_form e n x h g q = absurd cc

pub record IsAttribute (e : Expr) (g : Place → List Place) : Type 0 where
  pub wanted : NameTest
  pub tests : List Expr
  pub is : out-Expr e ≡ Step axis.Attribute (test.Named wanted) tests
  pub leads : g ≡ step_nodes axis.Attribute (test.Named wanted) []

attribute_axis : (along : Axis) → is_attribute_axis along ≡ true → along ≡ axis.Attribute
unfolding is_attribute_axis
attribute_axis axis.Attribute h = refl
attribute_axis along h = absurd cc

named_test : (wanted : Test) → is_named wanted ≡ true →
    (names : NameTest) × (wanted ≡ test.Named names)
unfolding is_named
named_test (test.Named names) h = (names, refl)
named_test wanted h = absurd cc

step_attribute : (e : Expr) (g : Place → List Place) (along : Axis) (wanted : Test)
    (tests : List Expr) →
    out-Expr e ≡ Step along wanted tests → stepped along wanted (map quietly_of tests)
    ≡ attribute g →
    IsAttribute e g
step_attribute e g along wanted tests h q =
    by (is_attribute_name along wanted (map quietly_of tests)) refl
    (list_all is_predicate (map quietly_of tests)) q
  where
    inside : (f : Place → List Place) → attribute f ≡ attribute g → f ≡ g
    inside f x = cc

    by : (b : Bool) → is_attribute_name along wanted (map quietly_of tests) ≡ b → (d : Bool) →
        (if b then attribute (step_nodes along wanted [])
        else if d then step (step_nodes along wanted (map holds_at (map quietly_of tests))) else
        other)
        ≡ attribute g → IsAttribute e g
    by true i d x =
        let y = and_parts (is_attribute_axis along && is_named wanted)
        (is_bare (map quietly_of tests)) i in
        let z = and_parts (is_attribute_axis along) (is_named wanted) y.0 in
        let a = attribute_axis along z.0 in
        let n = named_test wanted z.1 in
        record {
          wanted = n.0;
          tests = tests;
          is = h ∙ ap₂ (λ l w. Step l w tests) a n.1;
          leads = sym (inside (step_nodes along wanted []) x) ∙ ap₂ (λ l w. step_nodes l w []) a
              n.1;
        }
    by false i true x = absurd cc
    by false i false x = absurd cc

attribute_form : (e : Expr) (g : Place → List Place) (x : ExprForm) → out-Expr e ≡ x →
    may_give x a_step ≡ true → gives_quietly x ≡ attribute g → IsAttribute e g
attribute_form e g (Step along wanted tests) h m q = step_attribute e g along wanted tests h q
attribute_form e g x h m q = absurd cc

pub an_integer_is : (e : Expr) (n : ℤ) → quietly_of e ≡ integer n → out-Expr e ≡ Int n
an_integer_is e n h =
    integer_form e n (out-Expr e) refl (its_origin e an_integer (ap origin h ∙ integer_origin n))
    (sym (quiet_by_form e) ∙ h)

pub an_attribute_is : (e : Expr) (g : Place → List Place) → quietly_of e ≡ attribute g →
    IsAttribute e g
an_attribute_is e g h =
    attribute_form e g (out-Expr e) refl (its_origin e a_step (ap origin h ∙ attribute_origin g))
    (sym (quiet_by_form e) ∙ h)
