-- How deep the test of a pattern nests.
use Rattle.std.proofs.Common.{◌≡◌, ℕ, ◌+◌, ◌≤◌, max, List, [], ◌∷◌, ◌++◌, map, length, reverse}
use Rattle.std.proofs.Common.{refl, ap, sym, ◌∙◌}
use Rattle.std.proofs.Common.{subst, Bool, true, false, arith}
use Rattle.std.proofs.lemmas.Bool.{leb-true}
use Rattle.std.proofs.lemmas.List.{reverse-append}
use Rattle.std.specs.Prelude.{nat_le, if◌then◌else◌, None, codes}
use Rattle.std.specs.List.{list_all}
use Rattle.xt_names.specs.declared.kinds.AtomType.TheVariants.{Int as IntegerType}
use Rattle.xt_names.specs.declared.kinds.CompareOp.TheVariants.{Eq}
use Rattle.xt_types.specs.declared.axes.Axis.{Axis}
use Rattle.xt_types.specs.declared.axes.Axis.TheVariants as axis
use Rattle.xt_types.specs.declared.node_tests.NameTest.{NameTest}
use Rattle.xt_types.specs.declared.node_tests.NameTest.TheVariants.{Any, Uri, Local, Exact}
use Rattle.xt_types.specs.declared.node_tests.Test.{Test}
use Rattle.xt_types.specs.declared.node_tests.Test.TheVariants as test
use Rattle.xt_forms.specs.Nest.{nest_of, bind_nest_of, step_nest_of, pattern_nest_of}
use Rattle.xt_syntax.specs.declared.exprs.Expr.{Expr}
use Rattle.xt_syntax.specs.declared.exprs.Clause.TheViews.{out-Expr, roll-Expr, roll-Arm}
use Rattle.xt_syntax.specs.declared.exprs.Clause.TheViews.{roll-out-Expr}
use Rattle.xt_syntax.specs.declared.exprs.Clause.TheOpen.{Str, Var, Context, Or, And, If, Quant}
use Rattle.xt_syntax.specs.declared.exprs.Clause.TheOpen.{General}
use Rattle.xt_syntax.specs.declared.exprs.Clause.TheOpen.{Castable, Slash, Step, Filter, Intersect}
use Rattle.xt_syntax.specs.declared.exprs.Clause.TheOpen.{Call}
use Rattle.xt_syntax.specs.declared.patterns.Pattern.{Pattern}
use Rattle.xt_syntax.specs.declared.patterns.PatternStep.{PatternStep}
use Rattle.quiet_eval.specs.QuietPlaces.Free.{is_place_free_expr}
use Rattle.walk_laws.specs.QuietValues.Given.{has_quiet_form}
use Rattle.expr_meaning.specs.Outcomes.Outcome.{Every}
use Rattle.expr_laws.proofs.Texts.{ArmForm, BindForm}
use Rattle.carried_exprs.specs.Forms.{ExprForm}
use Rattle.carried_exprs.specs.Sights.{item_name, the_item, library_call}
use Rattle.carried_exprs.proofs.NestRolled.{nest_expr_value, nest_expr_rolled, nest_arm_rolled}
use Rattle.carried_exprs.proofs.NestRolled.{nest_bind_rolled}
use Rattle.pattern_paths.specs.Predicates.{integer_castable, integer_nodes, integer_comparison}
use Rattle.pattern_paths.specs.Predicates.{unfailing_part}
use Rattle.pattern_paths.specs.Predicates.{unfailing_form, unfailing}
use Rattle.pattern_paths.specs.Upwards.{step, may_be_child, child_tests, name_tests, has_text}
use Rattle.pattern_paths.specs.Upwards.{never, self_document}
use Rattle.pattern_paths.specs.Upwards.{self_attribute, attribute_tests, kind_test, kind_tests}
use Rattle.pattern_paths.specs.Upwards.{parent, beside}
use Rattle.pattern_paths.specs.Upwards.{is_front, kept_among, kept_beside, predicates}
use Rattle.pattern_paths.specs.Upwards.{upward_tests, upward, towards, to_document, upward_from}
use Rattle.pattern_paths.specs.Matching.{any_match_test, path_along, bound_step, some_along}
use Rattle.pattern_paths.specs.Matching.{longest_path, from_item, match_test}
use Rattle.xt_forms.proofs.NestLemmas.{most}
use Rattle.xt_names.specs.Lists.{greatest}
use Rattle.xt_names.specs.ExprNames.{library_name}

abbrev AllBelow : ℕ → List Expr → Type 0
AllBelow n es = most es ≤ n

nests : (x : ExprForm) → nest_of (roll-Expr x) ≡ nest_expr_value x
nests x = nest_expr_rolled x

step_nests : (along : Axis) (wanted : Test) (tests : List Expr) →
    nest_of (step along wanted tests) ≡ 1 + most tests
step_nests along wanted tests = nests (Step along wanted tests)

context_nests : nest_of (roll-Expr Context) ≡ 1
context_nests = nests Context

item_nests : nest_of the_item ≡ 1
item_nests = nests (Var item_name)

-- predicates

whole_nests : nest_of integer_castable ≡ 2
whole_nests = nests (Castable (roll-Expr Context) IntegerType false)
    ∙ ap (λ n. 1 + n) context_nests

one_more : (e : Expr) → most (e ∷ []) ≡ max (nest_of e) 0
one_more e = refl

form_some : (e : Expr) (x : ExprForm) → out-Expr e ≡ x → nest_of e ≡ nest_expr_value x
form_some e x h = ap nest_of (sym (roll-out-Expr e) ∙ ap roll-Expr h) ∙ nests x

nodes_nest : (a : Expr) (x : ExprForm) → out-Expr a ≡ x → nest_of (integer_nodes a x) ≤ nest_of a +
    2
nodes_nest a (Step along wanted tests) h =
    let e = form_some a (Step along wanted tests) h in
    let f = step_nests along wanted (integer_castable ∷ []) in
    let g = whole_nests in
    omega (arith, e, f, g)
nodes_nest a x h = omega arith

comparison_nests : (e : Expr) (x : ExprForm) → out-Expr e ≡ x → nest_of (integer_comparison e x) ≤
    nest_of e + 2
comparison_nests e (General op a b) h =
    let n = form_some e (General op a b) h in
    let f = nests (General op (integer_nodes a (out-Expr a)) b) in
    let g = nodes_nest a (out-Expr a) refl in
    omega (arith, n, f, g)
comparison_nests e x h = omega arith

part_nests : (e : Expr) → nest_of (unfailing_part e) ≤ nest_of e + 2
part_nests e = by (has_quiet_form e)
  where
    by : (b : Bool) → nest_of (if b then e else integer_comparison e (out-Expr e)) ≤ nest_of e + 2
    by true = omega arith
    by false = comparison_nests e (out-Expr e) refl

parts_nest : (es : List Expr) → most (map unfailing_part es) ≤ most es + 2
parts_nest [] = omega arith
parts_nest (e ∷ es) = let h = part_nests e in let g = parts_nest es in omega (arith, h, g)

form_nests : (e : Expr) (x : ExprForm) → out-Expr e ≡ x → nest_of (unfailing_form e x) ≤ nest_of e
    + 2
form_nests e (And all) h =
    let n = form_some e (And all) h in
    let f = nests (And (map unfailing_part all)) in
    let g = parts_nest all in
    omega (arith, n, f, g)
form_nests e x h = comparison_nests e x h

unfailing_nests : (e : Expr) → nest_of (unfailing e) ≤ nest_of e + 2
unfailing_nests e = by (has_quiet_form e)
  where
    by : (b : Bool) → nest_of (if b then e else unfailing_form e (out-Expr e)) ≤ nest_of e + 2
    by true = omega arith
    by false = form_nests e (out-Expr e) refl

all_nest : (es : List Expr) → most (map unfailing es) ≤ most es + 2
all_nest [] = omega arith
all_nest (e ∷ es) = let h = unfailing_nests e in let g = all_nest es in omega (arith, h, g)

-- which node

call_nests : (local : List ℕ) (args : List Expr) → nest_of (library_call local args)
    ≡ 1 + most args
call_nests local args = nests (Call (library_name local) args)

child_nests : nest_of may_be_child ≤ 3
child_nests =
    let a = call_nests (codes "not") (roll-Expr (Or (self_document ∷ self_attribute ∷ [])) ∷ []) in
    let b = nests (Or (self_document ∷ self_attribute ∷ [])) in
    let c = step_nests axis.Itself test.Doc [] in
    let d = step_nests axis.Itself (test.Attr Any) [] in
    omega (arith, a, b, c, d)

never_nests : nest_of never ≤ 3
never_nests = let a = call_nests (codes "false") [] in omega (arith, a)

text_nests : (function text : List ℕ) → nest_of (has_text function text) ≤ 3
text_nests function text =
    let a = nests (General Eq (library_call function []) (roll-Expr (Str text))) in
    let b = call_nests function [] in
    let c = nests (Str text) in
    omega (arith, a, b, c)

one_below : (e : Expr) → nest_of e ≤ 3 → most (e ∷ []) ≤ 3
one_below e h = omega (arith, h)

none_below : most [] ≤ 3
none_below = omega arith

child_tests_nest : (wanted : Test) → most (child_tests wanted) ≤ 3
child_tests_nest test.Node = one_below may_be_child child_nests
child_tests_nest test.Doc = one_below may_be_child child_nests
child_tests_nest (test.Attr names) = one_below may_be_child child_nests
child_tests_nest (test.Named names) = none_below
child_tests_nest (test.Elem names) = none_below
child_tests_nest test.Text = none_below
child_tests_nest test.Comment = none_below
child_tests_nest (test.Pi target) = none_below

name_tests_nest : (names : NameTest) → most (name_tests names) ≤ 3
name_tests_nest Any = none_below
name_tests_nest (Uri uri) = one_below _ (text_nests (codes "namespace-uri") uri)
name_tests_nest (Local local) = one_below _ (text_nests (codes "local-name") local)
name_tests_nest (Exact name) = none_below

attribute_tests_nest : (wanted : Test) → most (attribute_tests wanted) ≤ 3
attribute_tests_nest (test.Named names) = name_tests_nest names
attribute_tests_nest (test.Attr names) = name_tests_nest names
attribute_tests_nest test.Node = none_below
attribute_tests_nest test.Text = one_below never never_nests
attribute_tests_nest test.Comment = one_below never never_nests
attribute_tests_nest (test.Pi target) = one_below never never_nests
attribute_tests_nest test.Doc = one_below never never_nests
attribute_tests_nest (test.Elem names) = one_below never never_nests

kind_tests_nest : (along : Axis) (wanted : Test) → most (kind_tests along wanted) ≤ 3
unfolding kind_tests
kind_tests_nest axis.Attribute wanted = attribute_tests_nest wanted
kind_tests_nest axis.Child wanted = child_tests_nest wanted
kind_tests_nest along wanted = one_below never never_nests

-- predicates that look at their place

beside_nests : (along : Axis) (wanted : Test) → nest_of (beside along wanted) ≤ 3
beside_nests along wanted =
    let s = step along wanted [] in
    let arm : ArmForm = record { test = parent; then = roll-Expr (Slash parent s) } in
    let a = nests (If (roll-Arm arm ∷ []) (roll-Expr Context)) in
    let b = nest_arm_rolled arm in
    let c = nests (Slash parent s) in
    let d = step_nests axis.Parent test.Node [] in
    let e = step_nests along wanted [] in
    let f = context_nests in
    omega (arith, a, b, c, d, e, f)

kept_beside_nests : (alone : Bool) (s : PatternStep) → nest_of (kept_beside alone s) ≤ max 4
    (4 + most s.quiet)
kept_beside_nests true s =
    let b = nests (Filter (beside s.axis s.test) (map unfailing s.quiet)) in
    let c = beside_nests s.axis s.test in
    let d = all_nest s.quiet in
    omega (arith, b, c, d)
kept_beside_nests false s =
    let own = step s.axis s.test (map unfailing s.quiet) in
    let a = nests (Slash parent own) in
    let b = step_nests s.axis s.test (map unfailing s.quiet) in
    let c = step_nests axis.Parent test.Node [] in
    let d = all_nest s.quiet in
    omega (arith, a, b, c, d)

among_nests : (alone : Bool) (s : PatternStep) → nest_of (kept_among alone s) ≤ 5 + most s.quiet
among_nests alone s =
    let a = nests (Intersect (kept_beside alone s) (roll-Expr Context)) in
    let b = kept_beside_nests alone s in
    let e = context_nests in
    omega (arith, a, b, e)

predicates_nest : (alone : Bool) (s : PatternStep) → most (predicates alone s) ≤ 5 + most s.quiet
predicates_nest alone s = by (list_all is_place_free_expr s.quiet)
  where
    by : (b : Bool) → most (if b then map unfailing s.quiet else kept_among alone s ∷ []) ≤ 5 +
        most s.quiet
    by true = let h = all_nest s.quiet in omega (arith, h)
    by false = let h = among_nests alone s in omega (arith, h)

append_most : (es fs : List Expr) → most (es ++ fs) ≤ max (most es) (most fs)
append_most [] fs = omega arith
append_most (e ∷ es) fs = let h = append_most es fs in omega (arith, h)

-- steps

upward_nests : (alone : Bool) (up : Axis) (s : PatternStep) → nest_of (upward alone up s) ≤ 6 +
    most s.quiet
upward_nests alone up s =
    let a = step_nests up (kind_test s.axis s.test) (upward_tests alone s) in
    let b = append_most (kind_tests s.axis s.test) (predicates alone s) in
    let c = kind_tests_nest s.axis s.test in
    let d = predicates_nest alone s in
    omega (arith, a, b, c, d)

abbrev Within : ℕ → List PatternStep → Type 0
Within m steps = Every (λ (s : PatternStep). most s.quiet ≤ m) steps

all_within : (m : ℕ) (steps : List PatternStep) → greatest (map step_nest_of steps) ≤ m →
    Within m steps
all_within m [] h = tt
all_within m (s ∷ steps) h = (omega (arith, h), all_within m steps (omega (arith, h)))

append_within : (m : ℕ) (xs ys : List PatternStep) → Within m xs → Within m ys →
    Within m (xs ++ ys)
append_within m [] ys h g = g
append_within m (x ∷ xs) ys h g = (h.0, append_within m xs ys h.1 g)

turned_within : (m : ℕ) (steps : List PatternStep) → Within m steps → Within m (reverse steps)
turned_within m [] h = tt
turned_within m (s ∷ steps) h =
    subst (Within m) (sym (reverse-append (s ∷ []) steps))
    (append_within m (reverse steps) (s ∷ []) (turned_within m steps h.1) (h.0, tt))

document_nests : (rooted : Bool) (up : Axis) (m : ℕ) → most (to_document rooted up) ≤ 6 + m
document_nests true up m = let a = step_nests up test.Doc [] in omega (arith, a)
document_nests false up m = omega arith

steps_nest : (m : ℕ) (rooted : Bool) (up : Axis) (steps : List PatternStep) → Within m steps →
    most (upward_from rooted up steps) ≤ 6 + m
steps_nest m rooted up [] h = document_nests rooted up m
steps_nest m rooted up (s ∷ before) h =
    let a = upward_nests (is_front rooted before) up s in
    let b = steps_nest m rooted (towards s.deep) before h.1 in
    let c = h.0 in
    omega (arith, a, b, c)

-- paths and bindings

path_nests : (a : Expr) (es : List Expr) → nest_of (path_along a es) ≤ max (nest_of a) (most es) +
    length es
path_nests a [] = omega arith
path_nests a (e ∷ es) =
    let h = path_nests (roll-Expr (Slash a e)) es in
    let g = nests (Slash a e) in
    omega (arith, h, g)

binding_nests : (e : Expr) → bind_nest_of (bound_step e) ≡ 1 + max (nest_of the_item) (nest_of e)
binding_nests e =
    (let x : BindForm = record {
      var = item_name;
      kind = None;
      source = roll-Expr
          (Slash the_item e);
    } in
    nest_bind_rolled x) ∙ nests (Slash the_item e)

bindings_nest : (es : List Expr) → greatest (map bind_nest_of (map bound_step es)) ≤ 2 + most es
bindings_nest [] = omega arith
bindings_nest (e ∷ es) =
    let h = bindings_nest es in
    let g = binding_nests e in
    let i = item_nests in
    omega (arith, h, g, i)

some_nests : (es : List Expr) → nest_of (some_along es) ≤ 3 + most es
some_nests es =
    let h = nests (Quant false (map bound_step es) (library_call (codes "true") [])) in
    let g = bindings_nest es in
    let t = call_nests (codes "true") [] in
    omega (arith, h, g, t)

from_item_nests : (m : ℕ) (es : List Expr) → most es ≤ 6 + m → nest_of (from_item es) ≤ 14 + m
from_item_nests m es h = by (nat_le (length es) longest_path) refl
  where
    by : (b : Bool) → nat_le (length es) longest_path ≡ b →
        nest_of (if b then path_along the_item es else some_along es) ≤ 14 + m
    by true e =
        let g = path_nests the_item es in
        let i = item_nests in
        let l = leb-true (length es) 8 e in
        omega (arith, h, g, i, l)
    by false e = let g = some_nests es in omega (arith, h, g)

pub pattern_nests : (p : Pattern) → nest_of (match_test p) ≤ 14 + pattern_nest_of p
pattern_nests p =
    let m = greatest (map step_nest_of p.steps) in
    let within = turned_within m p.steps (all_within m p.steps (omega arith)) in
    let h = from_item_nests m (upward_from p.rooted axis.Itself (reverse p.steps))
    (steps_nest m p.rooted axis.Itself (reverse p.steps) within) in
    omega (arith, h)

patterns_nest : (ps : List Pattern) → most (map match_test ps) ≤ 14 + greatest
    (map pattern_nest_of ps)
patterns_nest [] = omega arith
patterns_nest (p ∷ ps) =
    let h = pattern_nests p in
    let g = patterns_nest ps in
    omega (arith, h, g)

pub alternatives_nest : (ps : List Pattern) →
    nest_of (any_match_test ps) ≤ 15 + greatest (map pattern_nest_of ps)
alternatives_nest [] = let a = call_nests (codes "false") [] in omega (arith, a)
alternatives_nest (p ∷ []) = let h = pattern_nests p in omega (arith, h)
alternatives_nest (p ∷ q ∷ more) =
    let h = patterns_nest (p ∷ q ∷ more) in
    let g = nests (Or (match_test p ∷ match_test q ∷ map match_test more)) in
    omega (arith, h, g)
