-- The tests of patterns of closed stylesheets are regular and nest at most 60 levels.
use Rattle.std.proofs.Common.{◌≡◌, List, [], ◌∷◌, refl, arith}
use Rattle.std.proofs.lemmas.Bool.{and_parts, leb-true}
use Rattle.std.specs.Prelude.{true, ◌&&◌, nat_le}
use Rattle.std.specs.List.{list_all}
use Rattle.xt_types.specs.Regular.{is_regular_name_test, is_regular_test}
use Rattle.xt_types.specs.declared.node_tests.NameTest.{NameTest}
use Rattle.xt_types.specs.declared.node_tests.NameTest.TheVariants as name
use Rattle.xt_types.specs.declared.node_tests.Test.{Test}
use Rattle.xt_types.specs.declared.node_tests.Test.TheVariants as test
use Rattle.xt_forms.specs.Nest.{pattern_nest_of}
use Rattle.xt_forms.specs.Regular.{is_regular_expr}
use Rattle.xt_syntax.specs.declared.exprs.Expr.{Expr}
use Rattle.xt_syntax.specs.declared.patterns.Pattern.{Pattern}
use Rattle.xt_syntax.specs.declared.patterns.PatternStep.{PatternStep}
use Rattle.quiet_meaning.specs.Quietly.{is_pattern_form, is_pattern_predicate, quietly_of}
use Rattle.expr_meaning.specs.Outcomes.Outcome.{Every}
use Rattle.sheet_closure.specs.StandingParts.Patterns.{is_pattern_axis, is_pattern_name, is_pattern_test, is_pattern_step}
use Rattle.sheet_closure.specs.StandingParts.Patterns.{begins_well, is_alternative}
use Rattle.pattern_paths.specs.Properties.{IsRegular, IsRegularTest}
use Rattle.pattern_paths.proofs.Nesting.{pattern_nests}
use Rattle.pattern_paths.proofs.Regular.{pattern_regular}
use Rattle.translated_forms.specs.Bounds.{IsBounded}
use Rattle.translation.specs.PatternTests.{match_test}

name_regular : (n : NameTest) → is_pattern_name n ≡ true → is_regular_name_test n ≡ true
unfolding is_pattern_name is_regular_name_test
name_regular name.Any h = refl
name_regular (name.Uri uri) h = h
name_regular (name.Local local) h = refl
name_regular (name.Exact n) h = refl

test_regular : (t : Test) → is_pattern_test t ≡ true → is_regular_test t ≡ true
unfolding is_pattern_test is_regular_test
test_regular (test.Named n) h = name_regular n h
test_regular test.Node h = refl
test_regular test.Text h = refl
test_regular test.Comment h = refl
test_regular (test.Pi target) h = refl
test_regular test.Doc h = refl
test_regular (test.Elem n) h = absurd cc
test_regular (test.Attr n) h = absurd cc

predicates_regular : (es : List Expr) → list_all is_pattern_predicate es ≡ true → Every IsRegular es
predicates_regular [] h = tt
predicates_regular (e ∷ es) h =
    let a = and_parts (is_pattern_predicate e) (list_all is_pattern_predicate es) h in
    ((and_parts (is_regular_expr e) (is_pattern_form (quietly_of e)) a.0).0, predicates_regular es a.1)

steps_regular : (ss : List PatternStep) → list_all is_pattern_step ss ≡ true →
    Every (λ (s : PatternStep). IsRegularTest s.test × Every IsRegular s.quiet) ss
unfolding is_pattern_step
steps_regular [] h = tt
steps_regular (s ∷ ss) h =
    let a = and_parts (is_pattern_axis s.axis && (is_pattern_test s.test && list_all is_pattern_predicate s.quiet))
    (list_all is_pattern_step ss) h in
    let b = and_parts (is_pattern_axis s.axis) (is_pattern_test s.test && list_all is_pattern_predicate s.quiet) a.0 in
    let c = and_parts (is_pattern_test s.test) (list_all is_pattern_predicate s.quiet) b.1 in
    ((test_regular s.test c.0, predicates_regular s.quiet c.1), steps_regular ss a.1)

pub tests_keep : (p : Pattern) → is_alternative p ≡ true → IsBounded 60 (match_test p)
unfolding is_alternative
tests_keep p h =
    let a = and_parts (begins_well p.rooted p.steps) (list_all is_pattern_step p.steps && nat_le (pattern_nest_of p) 40) h in
    let b = and_parts (list_all is_pattern_step p.steps) (nat_le (pattern_nest_of p) 40) a.1 in
    let c = leb-true (pattern_nest_of p) 40 b.1 in let d = pattern_nests p in
    record { nests = omega arith; regular = pattern_regular p (steps_regular p.steps b.0) }
