-- A step of a pattern that breaks no rule is one that a closed stylesheet may have.
use Rattle.std.proofs.Common.{◌≡◌, ℕ, ◌+◌, ◌≤◌, max, List, [], ◌∷◌, map, Bool, true, false, refl}
use Rattle.std.proofs.Common.{sym, ap, subst, ◌∙◌, arith}
use Rattle.std.proofs.lemmas.Bool.{and_parts, and_from}
use Rattle.std.specs.List.{list_all}
use Rattle.xt_types.specs.Regular.{is_regular_test}
use Rattle.xt_types.specs.declared.axes.Axis.{Axis}
use Rattle.xt_types.specs.declared.node_tests.Test.{Test}
use Rattle.xt_forms.specs.Regular.{every, every_regular, regulars, regular_steps, expr_facts_of}
use Rattle.xt_forms.specs.Regular.{is_regular_expr}
use Rattle.xt_forms.specs.Nest.{nest_of, nests, nest_steps, step_nest_of}
use Rattle.xt_syntax.specs.declared.exprs.Expr.{Expr}
use Rattle.xt_syntax.specs.declared.exprs.Expr.TheVariants as expr
use Rattle.xt_syntax.specs.declared.exprs.Expr.TheVariants.{rolls-Step, outs-Step}
use Rattle.xt_syntax.specs.declared.exprs.Clause.TheViews.{out-Expr}
use Rattle.xt_syntax.specs.declared.exprs.Clause.TheOpen.{Step}
use Rattle.xt_syntax.specs.declared.patterns.PatternStep.{PatternStep}
use Rattle.closed_queries.specs.Closed.{is_good_expr}
use Rattle.closed_queries.specs.ExprTexts.{has_sound_texts, sounds, sound_steps}
use Rattle.closed_queries.specs.Texts.{is_sound_test}
use Rattle.closed_sheets.specs.Forms.{has_xpath_forms, forms, form_steps}
use Rattle.closed_sheets.specs.Values.{is_sheet_expr, is_good_step}
use Rattle.expr_terms.specs.Nest.{levels_of, raw_nest_of, with_part, with_parts, is_left}
use Rattle.expr_terms.specs.Nest.{is_arms, whole_nest}
use Rattle.expr_keys.specs.declared.productions.Production.{Production}
use Rattle.expr_keys.specs.declared.productions.Production.TheVariants as production
use Rattle.expr_terms.specs.declared.raws.Raw.{Raw}
use Rattle.expr_terms.specs.declared.raws.Raw.TheViews.{out-Raw}
use Rattle.expr_terms.specs.declared.raws.Raw.TheOpen.{Raw-F, Leaf, Node}
use Rattle.expr_grammar.specs.ExprNest.Held.{held}
use Rattle.expr_grammar.proofs.ExprNest.Levels.{nest-node}
use Rattle.sound_expressions.proofs.ExprRegular.Regular.{whole_good}
use Rattle.expr_resolve.specs.declared.setting.Setting.{Setting}
use Rattle.expr_resolve.specs.Folds.{broken_of, expr_meant}
use Rattle.sound_expressions.specs.SoundForms.Sound.{SoundPrefixes}
use Rattle.quiet_meaning.specs.Quietly.{is_pattern_predicate}
use Rattle.pattern_forms.specs.PatternShapes.Shapes.{is_step_in}
use Rattle.pattern_syntax.specs.Meant.{step_in, step_of, has_allowed}
use Rattle.pattern_syntax.specs.Parts.{has_pattern_test_in}
use Rattle.pattern_syntax.specs.Predicates.{parts_in, deepest}
use Rattle.sheet_closure.specs.StandingParts.Patterns.{is_pattern_axis, is_pattern_test, is_pattern_step}
use Rattle.xpath_laws.proofs.XpathForms.Rolled.{expr_rolled}
use Rattle.xpath_laws.proofs.XpathForms.Shapes.{whole_shaped}
use Rattle.xpath_laws.proofs.XpathForms.Swapped.{node_is}
use Rattle.xpath_laws.proofs.XpathForms.Whole.{xpath_fits}
use Rattle.closed_texts.proofs.PatternCuts.Cut.{step_spelled}
use Rattle.closed_texts.specs.PatternCuts.Steps.{IsStep}
use Rattle.closed_texts.proofs.ClosedPatterns.Tests.{is_allowed_test, pattern_test, MeantStep, is_meant}
use Rattle.xt_names.proofs.BoolLemmas.{never}
use Rattle.pattern_syntax.proofs.NestLemmas.{part_beside}
use Rattle.xt_names.specs.Lists.{greatest}

-- the predicates of a step that is an expression of stylesheets
all_sheet : (es : List Expr) → every_regular (map expr_facts_of es) ≡ true
    → every (map has_sound_texts es) ≡ true → every (map has_xpath_forms es) ≡ true
    → list_all is_sheet_expr es ≡ true
unfolding is_sheet_expr is_good_expr
all_sheet [] r s f = refl
all_sheet (e ∷ es) r s f =
    let x = and_parts (is_regular_expr e) (every_regular (map expr_facts_of es)) r in
    let y = and_parts (has_sound_texts e) (every (map has_sound_texts es)) s in
    let z = and_parts (has_xpath_forms e) (every (map has_xpath_forms es)) f in
    and_from (is_sheet_expr e) _
    (and_from (is_good_expr e) _ (and_from (is_regular_expr e) _ x.0 y.0) z.0)
    (all_sheet es x.1 y.1 z.1)

record Predicates (wanted : Test) (tests : List Expr) : Type 0 where
  regular : is_regular_test wanted ≡ true
  sound : is_sound_test wanted ≡ true
  sheet : list_all is_sheet_expr tests ≡ true

predicates : (on : Axis) (wanted : Test) (tests : List Expr)
    → is_good_expr (expr.Step on wanted tests) ≡ true
    → has_xpath_forms (expr.Step on wanted tests) ≡ true → Predicates wanted tests
unfolding is_good_expr
predicates on wanted tests g f =
    let x = Step on wanted tests in
    let i = rolls-Step on wanted tests in
    let both = and_parts (is_regular_expr (expr.Step on wanted tests))
    (has_sound_texts (expr.Step on wanted tests)) g in
    let regular = and_parts (is_regular_test wanted) (every_regular (map expr_facts_of tests))
    (sym (ap (λ (y : regulars.Exprs). y.regular) (expr_rolled regulars regular_steps x))
    ∙ ap is_regular_expr i ∙ both.0) in
    let sound = and_parts (is_sound_test wanted) (every (map has_sound_texts tests))
    (sym (expr_rolled sounds sound_steps x) ∙ ap has_sound_texts i ∙ both.1) in
    let formed : every (map has_xpath_forms tests) ≡ true =
    sym (expr_rolled forms form_steps x) ∙ ap has_xpath_forms i ∙ f in
    record {
      regular = regular.0;
      sound = sound.0;
      sheet = all_sheet tests regular.1 sound.1 formed;
    }

-- .. nest one level less
tests_nest : (on : Axis) (wanted : Test) (tests : List Expr)
    → nest_of (expr.Step on wanted tests) ≡ 1 + greatest (map nest_of tests)
tests_nest on wanted tests =
    ap nest_of (sym (rolls-Step on wanted tests))
    ∙ expr_rolled nests nest_steps (Step on wanted tests)

beside : (p : Production) (a : ℕ) (vs : List Raw) → is_left p ≡ false → is_arms p ≡ false
    → with_parts p a (map levels_of vs) ≤ max a (deepest vs)
beside p a [] e f = omega arith
beside p a (v ∷ vs) e f =
    let n = raw_nest_of v in
    let h : with_parts p (max a n) (map levels_of vs) ≤ max (max a n) (deepest vs) =
    beside p (max a n) vs e f in
    let k : with_parts p (with_part p a (levels_of v)) (map levels_of vs)
    ≤ max (max a n) (deepest vs) =
    subst (λ x. with_parts p x (map levels_of vs) ≤ max (max a n) (deepest vs))
    (sym (part_beside p a (levels_of v) e f)) h in
    le_deepest a n (deepest vs) _ k
  where
    le_deepest : (a n d m : ℕ) → m ≤ max (max a n) d → m ≤ max a (max n d)
    le_deepest a n d m h = omega arith

-- .. so that it has one level more than they have
of_parts : (v : Raw) (p : Production) (vs : List Raw) → out-Raw v ≡ Node p vs
    → whole_nest p (held p vs) ≡ 1 + with_parts p 0 (map levels_of vs) → is_left p ≡ false
    → is_arms p ≡ false → raw_nest_of v ≤ 1 + deepest vs
of_parts v p vs o k e f =
    let i : raw_nest_of v ≡ 1 + with_parts p 0 (map levels_of vs) =
    ap raw_nest_of (node_is v p vs o) ∙ nest-node p vs ∙ k in
    let h = beside p 0 vs e f in
    omega (arith, i, h)

step_nests : (v : Raw) (f : Raw-F Raw) → out-Raw v ≡ f → is_step_in f ≡ true
    → raw_nest_of v ≤ 1 + deepest (parts_in f)
step_nests v (Leaf t) o e = never e
step_nests v (Node production.AxisStep vs) o e = of_parts v production.AxisStep vs o refl refl refl
step_nests v (Node production.AttributeStep vs) o e =
    of_parts v production.AttributeStep vs o refl refl refl
step_nests v (Node production.TestStep vs) o e = of_parts v production.TestStep vs o refl refl refl
step_nests v (Node _ vs) o e = never e

-- what is known of a step of a pattern
pub record GoodStep (t : PatternStep) : Type 0 where
  pub good : is_good_step t ≡ true
  pub pattern : is_pattern_step t ≡ true
  pub nests : step_nest_of t ≤ 40

made_step : (deep : Bool) (on : Axis) (wanted : Test) (tests : List Expr)
    → Predicates wanted tests → is_pattern_axis on ≡ true → is_allowed_test wanted ≡ true
    → list_all is_pattern_predicate tests ≡ true → greatest (map nest_of tests) ≤ 40
    → GoodStep (record { axis = on; test = wanted; quiet = tests; deep = deep })
unfolding is_good_step is_pattern_step
made_step deep on wanted tests g a t p n = record {
  good = and_from (is_sound_test wanted) _ g.sound g.sheet;
  pattern = and_from (is_pattern_axis on) _ a
      (and_from (is_pattern_test wanted) _ (pattern_test wanted g.regular t) p);
  nests = n;
}

-- the step that a value is
step_is : (s : Setting) (deep : Bool) (w : Raw) (m : MeantStep s w)
    → step_of s deep w ≡ record { axis = m.on; test = m.wanted; quiet = m.tests; deep = deep }
step_is s deep w m =
    ap (λ e. step_in deep (out-Expr e)) m.is
    ∙ ap (λ x. step_in deep x) (outs-Step m.on m.wanted m.tests)

pub good_step : (s : Setting) → SoundPrefixes s.prefixes → (deep : Bool) (w : Raw) → IsStep w
    → has_pattern_test_in (out-Raw w) ≡ true
    → broken_of s w ≡ [] → deepest (parts_in (out-Raw w)) ≤ 40
    → has_allowed (step_of s deep w) ≡ true → GoodStep (step_of s deep w)
good_step s u deep w i t b n p =
    let m = is_meant s w i t in
    let d = step_spelled i.derived in
    let fit = xpath_fits s d b in
    let whole = whole_good s u i.sound d (whole_shaped d) b in
    let g = predicates m.on m.wanted m.tests
    (subst (λ e. is_good_expr e ≡ true) m.is whole)
    (subst (λ e. has_xpath_forms e ≡ true) m.is fit.forms) in
    let levels : nest_of (expr_meant s w) ≤ raw_nest_of w = fit.nests in
    let raw = step_nests w (out-Raw w) refl i.shape in
    let size : nest_of (expr_meant s w) ≡ 1 + greatest (map nest_of m.tests) =
    ap nest_of m.is ∙ tests_nest m.on m.wanted m.tests in
    let is = step_is s deep w m in
    let allowed : list_all is_pattern_predicate m.tests ≡ true =
    subst (λ x. has_allowed x ≡ true) is p in
    subst GoodStep (sym is)
    (made_step deep m.on m.wanted m.tests g m.way m.allowed allowed
    (omega (arith, levels, raw, size, n)))
