-- The test of a pattern is regular where its tests and its predicates are.
use Rattle.std.proofs.Common.{◌≡◌, ℕ, List, [], ◌∷◌, map, length, refl, ap, sym, ◌∙◌, Bool, true}
use Rattle.std.proofs.Common.{false, arith}
use Rattle.std.proofs.Math.Dec.{eqb-suc-zero}
use Rattle.std.proofs.lemmas.Bool.{and_parts, le-leb}
use Rattle.std.proofs.lemmas.List.{length-map}
use Rattle.std.specs.Prelude.{not, ◌&&◌, nat_le, None, codes}
use Rattle.xt_names.specs.declared.kinds.AtomType.TheVariants.{Int as IntegerType}
use Rattle.xt_names.specs.declared.names.ExprName.{ExprName}
use Rattle.xt_types.specs.declared.node_tests.NameTest.TheVariants.{Any, Exact}
use Rattle.xt_types.specs.declared.node_tests.Test.TheVariants as test
use Rattle.xt_types.specs.Regular.{is_regular_test, is_kind_name}
use Rattle.xt_types.specs.declared.axes.Axis.{Axis}
use Rattle.xt_types.specs.declared.node_tests.Test.{Test}
use Rattle.xt_forms.specs.Regular.{regulars, every, every_regular, is_cast_name, is_cast_type}
use Rattle.xt_forms.specs.Regular.{is_regular_expr}
use Rattle.xt_forms.specs.Regular.{is_regular_arm, is_regular_bind, is_regular_kind, expr_facts_of}
use Rattle.xt_forms.specs.Regular as forms
use Rattle.xt_syntax.specs.declared.exprs.Expr.{Expr}
use Rattle.xt_syntax.specs.declared.exprs.Clause.TheViews.{roll-Expr, roll-Arm}
use Rattle.xt_syntax.specs.declared.exprs.Clause.TheOpen.{Str, Var, Context, Or, And, If, Quant}
use Rattle.xt_syntax.specs.declared.exprs.Clause.TheOpen.{General}
use Rattle.xt_syntax.specs.declared.exprs.Clause.TheOpen.{Castable, Slash, Step, Filter, Intersect}
use Rattle.xt_syntax.specs.declared.exprs.Clause.TheOpen.{Call}
use Rattle.expr_meaning.specs.Outcomes.Outcome.{Every}
use Rattle.expr_laws.proofs.Texts.{ArmForm, BindForm}
use Rattle.carried_exprs.specs.Forms.{ExprForm}
use Rattle.carried_exprs.specs.Sights.{item_name, the_item, library_call}
use Rattle.carried_exprs.proofs.RegularRolled.{regular_expr_value, regular_expr_rolled}
use Rattle.carried_exprs.proofs.RegularRolled.{regular_arm_rolled}
use Rattle.carried_exprs.proofs.RegularRolled.{regular_bind_rolled}
use Rattle.xt_syntax.specs.declared.patterns.Pattern.{Pattern}
use Rattle.pattern_paths.specs.Matching.{any_match_test, bound_step, match_test}
use Rattle.pattern_paths.proofs.Parts.{pattern_kept, alternatives_kept}
use Rattle.pattern_paths.specs.Properties.{IsRegular, IsRegularTest}
use Rattle.pattern_paths.specs.Built.{HasParts, IsKept, is_some_at_all}
use Rattle.xt_names.proofs.BoolLemmas.{and_both as both}
use Rattle.xt_names.specs.ExprNames.{library_name}

by_form : (x : ExprForm) → (regular_expr_value x).regular ≡ true → IsRegular (roll-Expr x)
by_form x h = ap (λ (f : regulars.Exprs). f.regular) (regular_expr_rolled x) ∙ h

to_form : (x : ExprForm) → IsRegular (roll-Expr x) → (regular_expr_value x).regular ≡ true
to_form x h = sym (ap (λ (f : regulars.Exprs). f.regular) (regular_expr_rolled x)) ∙ h

abbrev all_regular : List Expr → Bool
all_regular es = every_regular (map expr_facts_of es)

all_of : (es : List Expr) → Every IsRegular es → all_regular es ≡ true
all_of [] h = refl
all_of (e ∷ es) h = both (is_regular_expr e) (all_regular es) h.0 (all_of es h.1)

from_all : (es : List Expr) → all_regular es ≡ true → Every IsRegular es
from_all [] h = tt
from_all (e ∷ es) h = let p = and_parts (is_regular_expr e) (all_regular es) h in
    (p.0, from_all es p.1)

no_cast : (local : List ℕ) → not (is_cast_name (library_name local)) ≡ true
unfolding is_cast_name
no_cast local = refl

call_regular : (local : List ℕ) (args : List Expr) → Every IsRegular args →
    IsRegular (library_call local args)
call_regular local args h =
    by_form (Call (library_name local) args)
    (both (not (is_cast_name (library_name local))) (all_regular args) (no_cast local)
    (all_of args h))

some_length : {A : Type 0} (xs : List A) → is_some_at_all xs ≡ true → forms.is_some_at_all xs
    ≡ true
some_length [] h = absurd cc
some_length (x ∷ xs) h = ap not (eqb-suc-zero (length xs))

mapped_some : {A B : Type 0} (f : A → B) (xs : List A) → is_some_at_all xs ≡ true →
    is_some_at_all (map f xs) ≡ true
mapped_some f [] h = h
mapped_some f (x ∷ xs) h = refl

-- the forms

step_regular : (along : Axis) (wanted : Test) (tests : List Expr) → IsRegularTest wanted →
    Every IsRegular tests →
    IsRegular (roll-Expr (Step along wanted tests))
step_regular along wanted tests t h =
    by_form (Step along wanted tests) (both (is_regular_test wanted) (all_regular tests) t
    (all_of tests h))

step_test : (along : Axis) (wanted : Test) (tests : List Expr) →
    IsRegular (roll-Expr (Step along wanted tests)) →
    IsRegularTest wanted
step_test along wanted tests h =
    (and_parts (is_regular_test wanted) (all_regular tests)
    (to_form (Step along wanted tests) h)).0

two_parts : (a b : Expr) → IsRegular a → IsRegular b → (is_regular_expr a && is_regular_expr b)
    ≡ true
two_parts a b h g = both (is_regular_expr a) (is_regular_expr b) h g

either_regular : (a b : Expr) (more : List Expr) → Every IsRegular (a ∷ b ∷ more) →
    IsRegular (roll-Expr (Or (a ∷ b ∷ more)))
either_regular a b more h =
    by_form (Or (a ∷ b ∷ more))
    (both (nat_le 2 (length (map expr_facts_of (a ∷ b ∷ more)))) (all_regular (a ∷ b ∷ more))
    (le-leb 2 (length (map expr_facts_of (a ∷ b ∷ more))) (omega arith)) (all_of (a ∷ b ∷ more) h))

arm_regular : (a b : Expr) → IsRegular a → IsRegular b →
    is_regular_arm (roll-Arm (record { test = a; then = b })) ≡ true
arm_regular a b h g =
    (let x : ArmForm = record { test = a; then = b } in regular_arm_rolled x) ∙ two_parts a b h g

context_regular : IsRegular (roll-Expr Context)
context_regular = by_form Context refl

context_no_if : (expr_facts_of (roll-Expr Context)).is_if ≡ false
context_no_if = ap (λ (f : regulars.Exprs). f.is_if) (regular_expr_rolled Context)

chosen_regular : (a b : Expr) → IsRegular a → IsRegular b →
    IsRegular (roll-Expr (If (roll-Arm (record { test = a; then = b }) ∷ []) (roll-Expr Context)))
chosen_regular a b h g =
    by_form (If (roll-Arm (record { test = a; then = b }) ∷ []) (roll-Expr Context))
    (rw (arm_regular a b h g, context_regular, context_no_if) refl)

filter_regular : (a : Expr) (tests : List Expr) → is_some_at_all tests ≡ true → IsRegular a →
    Every IsRegular tests →
    IsRegular (roll-Expr (Filter a tests))
filter_regular a tests s h g =
    by_form (Filter a tests)
    (both (is_regular_expr a && forms.is_some_at_all (map expr_facts_of tests)) (all_regular tests)
    (both (is_regular_expr a) (forms.is_some_at_all (map expr_facts_of tests)) h
    (some_length (map expr_facts_of tests) (mapped_some expr_facts_of tests s))) (all_of tests g))

same_long : (es fs : List Expr) → length fs ≡ length es → nat_le 2 (length (map expr_facts_of es))
    ≡ true →
    nat_le 2 (length (map expr_facts_of fs)) ≡ true
same_long es fs e h =
    ap (nat_le 2) (length-map fs expr_facts_of ∙ e ∙ sym (length-map es expr_facts_of)) ∙ h

joined_regular : (es fs : List Expr) → IsRegular (roll-Expr (And es)) → length fs ≡ length es →
    Every IsRegular fs → IsRegular (roll-Expr (And fs))
joined_regular es fs h e g =
    let p = and_parts (nat_le 2 (length (map expr_facts_of es))) (all_regular es)
    (to_form (And es) h) in
    by_form (And fs)
    (both (nat_le 2 (length (map expr_facts_of fs))) (all_regular fs) (same_long es fs e p.0)
    (all_of fs g))

joined_parts : (es : List Expr) → IsRegular (roll-Expr (And es)) → Every IsRegular es
joined_parts es h =
    from_all es (and_parts (nat_le 2 (length (map expr_facts_of es))) (all_regular es)
    (to_form (And es) h)).1

slash_regular : (a b : Expr) → IsRegular a → IsRegular b → IsRegular (roll-Expr (Slash a b))
slash_regular a b h g = by_form (Slash a b) (two_parts a b h g)

item_regular : IsRegular the_item
item_regular = by_form (Var item_name) refl

bind_regular : (e : Expr) → IsRegular e → is_regular_bind (bound_step e) ≡ true
unfolding is_regular_kind
bind_regular e h =
    (let x : BindForm = record {
      var = item_name;
      kind = None;
      source = roll-Expr
          (Slash the_item e);
    } in
    regular_bind_rolled x) ∙ slash_regular the_item e item_regular h

binds_regular : (es : List Expr) → Every IsRegular es →
    every (map is_regular_bind (map bound_step es)) ≡ true
binds_regular [] h = refl
binds_regular (e ∷ es) h =
    both (is_regular_bind (bound_step e)) (every (map is_regular_bind (map bound_step es)))
    (bind_regular e h.0)
    (binds_regular es h.1)

true_regular : IsRegular (library_call (codes "true") [])
true_regular = call_regular (codes "true") [] tt

bound_regular : (es : List Expr) → is_some_at_all es ≡ true → Every IsRegular es →
    IsRegular (roll-Expr (Quant false (map bound_step es) (library_call (codes "true") [])))
bound_regular es s h =
    let binds = map is_regular_bind (map bound_step es) in
    by_form (Quant false (map bound_step es) (library_call (codes "true") []))
    (both (forms.is_some_at_all binds && every binds)
    (is_regular_expr (library_call (codes "true") []))
    (both (forms.is_some_at_all binds) (every binds)
    (some_length binds (mapped_some is_regular_bind (map bound_step es)
    (mapped_some bound_step es s)))
    (binds_regular es h)) true_regular)

whole_regular : IsRegular (roll-Expr (Castable (roll-Expr Context) IntegerType false))
unfolding is_cast_type
whole_regular =
    by_form (Castable (roll-Expr Context) IntegerType false)
    (both (is_regular_expr (roll-Expr Context)) true context_regular refl)

text_regular : (t : List ℕ) → IsRegular (roll-Expr (Str t))
text_regular t = by_form (Str t) refl

node_regular : IsRegularTest test.Node
unfolding is_regular_test
node_regular = refl

document_regular : IsRegularTest test.Doc
unfolding is_regular_test
document_regular = refl

attribute_regular : IsRegularTest (test.Attr Any)
unfolding is_regular_test is_kind_name
attribute_regular = refl

named_regular : (name : ExprName) → IsRegularTest (test.Named (Exact name)) →
    IsRegularTest (test.Attr (Exact name))
unfolding is_regular_test is_kind_name
named_regular name h = refl

pub regular_kept : IsKept IsRegular IsRegularTest
regular_kept = record {
  item = item_regular;
  context = context_regular;
  castable = whole_regular;
  never = call_regular (codes "false") [] tt;
  negated = λ a h. call_regular (codes "not") (a ∷ []) (h, tt);
  uri_called = call_regular (codes "namespace-uri") [] tt;
  local_called = call_regular (codes "local-name") [] tt;
  uri_text = λ uri h. text_regular uri;
  local_text = λ local h. text_regular local;
  attribute_uri = λ uri h. text_regular uri;
  attribute_local = λ local h. text_regular local;
  node = node_regular;
  document = document_regular;
  attribute = attribute_regular;
  attribute_named = named_regular;
  stepped = step_regular;
  step_test = step_test;
  slashed = slash_regular;
  either = either_regular;
  chosen = chosen_regular;
  filtered = filter_regular;
  intersected = λ a b h g. by_form (Intersect a b) (two_parts a b h g);
  compared = λ op a b h g. by_form (General op a b) (two_parts a b h g);
  compared_parts = λ op a b h. and_parts (is_regular_expr a) (is_regular_expr b)
      (to_form (General op a b) h);
  joined = joined_regular;
  joined_parts = joined_parts;
  bound = bound_regular;
}

pub pattern_regular : (p : Pattern) → HasParts IsRegular IsRegularTest p → IsRegular (match_test p)
pattern_regular p h = pattern_kept IsRegular IsRegularTest regular_kept p h

pub alternatives_regular : (ps : List Pattern) → Every (HasParts IsRegular IsRegularTest) ps →
    IsRegular (any_match_test ps)
alternatives_regular ps h = alternatives_kept IsRegular IsRegularTest regular_kept ps h
