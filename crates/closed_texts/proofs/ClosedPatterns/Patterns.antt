-- The alternatives of a pattern that breaks no rule are those that a closed stylesheet may have.
use Rattle.std.proofs.Common.{◌≡◌, ℕ, ◌≤◌, List, [], ◌∷◌, ◌++◌, map, Bool, true, false, not}
use Rattle.std.proofs.Common.{◌||◌, refl, ap, subst, ◌∙◌, arith}
use Rattle.std.proofs.lemmas.Bool.{and_parts, and_from, le-leb}
use Rattle.std.specs.List.{list_all}
use Rattle.xt_forms.specs.Nest.{step_nest_of, pattern_nest_of}
use Rattle.xt_syntax.specs.declared.patterns.Pattern.{Pattern}
use Rattle.xt_syntax.specs.declared.patterns.PatternStep.{PatternStep}
use Rattle.xt_syntax.specs.declared.exprs.Clause.TheOpen.{Step}
use Rattle.xt_syntax.specs.declared.exprs.Clause.TheViews.{out-Expr}
use Rattle.closed_sheets.specs.Values.{is_good_step, is_good_pattern}
use Rattle.expr_keys.specs.declared.productions.Language.TheVariants.{Xpath as xpath}
use Rattle.expr_keys.specs.declared.productions.Production.TheVariants as production
use Rattle.expr_keys.specs.declared.tokens.Token.{Token}
use Rattle.expr_terms.specs.declared.raws.Raw.{Raw}
use Rattle.expr_terms.specs.declared.raws.Raw.TheViews.{out-Raw}
use Rattle.expr_terms.specs.declared.raws.Raw.TheOpen.{Raw-F, Leaf, Node}
use Rattle.expr_grammar.specs.Grammar.{Spells}
use Rattle.expr_grammar.specs.ExprNest.Measures.{predicate_nest_of}
use Rattle.expr_resolve.specs.declared.setting.Setting.{Setting}
use Rattle.expr_resolve.specs.Folds.{broken_of, expr_meant}
use Rattle.sound_expressions.specs.SoundForms.Sound.{SoundPrefixes, are_sound}
use Rattle.pattern_forms.specs.PatternShapes.Shapes.{is_step, is_step_in, is_after, are_steps, is_alternative_in}
use Rattle.pattern_forms.specs.PatternShapes.Shapes.{is_behind_in, is_behind_slashes, inner_step, is_pattern}
use Rattle.pattern_syntax.specs.Parts.{barless, alternatives, steps_in, steps_within, is_rooted_in}
use Rattle.pattern_syntax.specs.Parts.{is_rooted_deep, is_rooted_deep_in, has_tests}
use Rattle.pattern_syntax.specs.Parts.{has_pattern_test, has_pattern_tests}
use Rattle.pattern_syntax.specs.Predicates.{step_parts, steps_parts, alternatives_parts, deepest}
use Rattle.pattern_syntax.specs.Predicates.{pattern_parts}
use Rattle.pattern_syntax.specs.Meant.{Layer, step_in, step_of, steps_from, alternative_of}
use Rattle.pattern_syntax.specs.Meant.{alternatives_from, patterns_of, steps_broken}
use Rattle.pattern_syntax.specs.Meant.{alternative_broken, alternatives_broken, pattern_broken}
use Rattle.pattern_syntax.specs.Meant.{has_allowed, have_allowed, is_allowed}
use Rattle.pattern_syntax.proofs.NestLemmas.{pattern_nests, deepest-append}
use Rattle.sheet_closure.specs.StandingParts.Patterns.{is_pattern_step, begins_well, is_alternative}
use Rattle.closed_texts.specs.PatternCuts.Steps.{AreSteps, AreAlternatives}
use Rattle.closed_texts.proofs.PatternCuts.Steps.{pattern_steps}
use Rattle.closed_texts.proofs.ClosedPatterns.Goods.{GoodStep, good_step}
use Rattle.xt_names.proofs.BoolLemmas.{never}
use Rattle.xt_names.proofs.ListLemmas.{front_nil, back_nil}
use Rattle.xt_names.specs.Lists.{greatest}

record Within (n : ℕ) (xs ys : List Raw) : Type 0 where
  front : deepest xs ≤ n
  back : deepest ys ≤ n

within_both : (n : ℕ) (xs ys : List Raw) → deepest (xs ++ ys) ≤ n → Within n xs ys
within_both n xs ys h =
    let e = deepest-append xs ys in
    record { front = omega (arith, e, h); back = omega (arith, e, h) }

-- `//` is at the front of the whole alone
deep_is : (deep : Bool) (x : Layer) → (step_in deep x).deep ≡ deep
deep_is deep (Step on wanted tests) = refl
deep_is deep _ = refl

not_behind : (f : Raw-F Raw) → is_step_in f ≡ true → is_behind_in f ≡ false
not_behind (Leaf t) e = never e
not_behind (Node production.DeepAfter vs) e = never e
not_behind (Node _ vs) e = refl

begins_plainly : (s : Setting) (v : Raw) (vs : List Raw) → is_step v ≡ true
    → begins_well false (steps_from s false (v ∷ vs)) ≡ true
unfolding begins_well
begins_plainly s v vs e =
    let plain : (step_of s (is_behind_slashes v) (inner_step v)).deep ≡ false =
    deep_is (is_behind_slashes v) (out-Expr (expr_meant s (inner_step v)))
    ∙ not_behind (out-Raw v) e in
    ap not plain

path_begins : (s : Setting) (vs : List Raw) → are_steps vs ≡ true
    → begins_well false (steps_from s false vs) ≡ true
path_begins s [] e = never e
path_begins s (v ∷ vs) e =
    begins_plainly s v vs (and_parts (is_step v) (list_all is_after vs) e).0

rooted_begins : (s : Setting) (deep : Bool) (vs : List Raw)
    → begins_well true (steps_from s deep vs) ≡ true
unfolding begins_well
rooted_begins s deep [] = refl
rooted_begins s deep (v ∷ vs) = refl

begins : (s : Setting) (v : Raw) (f : Raw-F Raw) → out-Raw v ≡ f → is_alternative_in f ≡ true
    → begins_well (is_rooted_in f) (steps_from s (is_rooted_deep_in f) (steps_within v f)) ≡ true
begins s v (Leaf t) o e = never e
begins s v (Node production.Rooted vs) o e = rooted_begins s false vs
begins s v (Node production.RootSteps vs) o e = rooted_begins s false vs
begins s v (Node production.RootedDeep vs) o e = rooted_begins s true vs
begins s v (Node production.Steps vs) o e = path_begins s vs e
begins s v (Node production.AxisStep vs) o e = begins_plainly s v [] (ap is_step_in o ∙ e)
begins s v (Node production.AttributeStep vs) o e = begins_plainly s v [] (ap is_step_in o ∙ e)
begins s v (Node production.TestStep vs) o e = begins_plainly s v [] (ap is_step_in o ∙ e)
begins s v (Node _ vs) o e = never e

-- the steps of an alternative
record GoodSteps (ts : List PatternStep) : Type 0 where
  good : list_all is_good_step ts ≡ true
  pattern : list_all is_pattern_step ts ≡ true
  nests : greatest (map step_nest_of ts) ≤ 40

no_steps : GoodSteps []
no_steps = record { good = refl; pattern = refl; nests = omega arith }

and_step : (t : PatternStep) (ts : List PatternStep) → GoodStep t → GoodSteps ts
    → GoodSteps (t ∷ ts)
and_step t ts g h =
    let a = g.nests in
    let b = h.nests in
    record {
      good = and_from (is_good_step t) _ g.good h.good;
      pattern = and_from (is_pattern_step t) _ g.pattern h.pattern;
      nests = omega (arith, a, b);
    }

pub record GoodPatterns (ps : List Pattern) : Type 0 where
  pub good : list_all is_good_pattern ps ≡ true
  pub stands : list_all is_alternative ps ≡ true

-- the alternative of these steps
and_pattern : (p : Pattern) (ps : List Pattern) → begins_well p.rooted p.steps ≡ true
    → GoodSteps p.steps → GoodPatterns ps → GoodPatterns (p ∷ ps)
unfolding is_good_pattern is_alternative
and_pattern p ps b g h =
    let n = g.nests in
    let levels : pattern_nest_of p ≤ 40 = omega (arith, n) in
    record {
      good = and_from (is_good_pattern p) _ g.good h.good;
      stands = and_from (is_alternative p) _
          (and_from (begins_well p.rooted p.steps) _ b
          (and_from (list_all is_pattern_step p.steps) _ g.pattern
          (le-leb (pattern_nest_of p) 40 levels))) h.stands;
    }

module _ (s : Setting) (u : SoundPrefixes s.prefixes) where
  steps_good : (deep : Bool) (vs : List Raw) → AreSteps vs
      → list_all has_pattern_test vs ≡ true → steps_broken s vs ≡ []
      → deepest (steps_parts vs) ≤ 40 → list_all has_allowed (steps_from s deep vs) ≡ true
      → GoodSteps (steps_from s deep vs)
  steps_good deep [] i t b n p = no_steps
  steps_good deep (v ∷ vs) i t b n p =
      let x = step_of s (deep || is_behind_slashes v) (inner_step v) in
      let xs = steps_from s false vs in
      let tests = and_parts (has_pattern_test v) (list_all has_pattern_test vs) t in
      let levels = within_both 40 (step_parts v) (steps_parts vs) n in
      let may = and_parts (has_allowed x) (list_all has_allowed xs) p in
      and_step x xs
      (good_step s u (deep || is_behind_slashes v) (inner_step v) i.0 tests.0
      (front_nil (broken_of s (inner_step v)) (steps_broken s vs) b) levels.front may.0)
      (steps_good false vs i.1 tests.1
      (back_nil (broken_of s (inner_step v)) (steps_broken s vs) b) levels.back may.1)

  patterns_good : (vs : List Raw) → AreAlternatives vs → list_all has_tests vs ≡ true
      → alternatives_broken s vs ≡ [] → deepest (alternatives_parts vs) ≤ 40
      → list_all have_allowed (alternatives_from s vs) ≡ true
      → GoodPatterns (alternatives_from s vs)
  patterns_good [] i t b n p = record { good = refl; stands = refl }
  patterns_good (v ∷ vs) i t b n p =
      let w = barless v in
      let x = alternative_of s w in
      let xs = alternatives_from s vs in
      let tests = and_parts (has_tests v) (list_all has_tests vs) t in
      let levels = within_both 40 (steps_parts (steps_in w)) (alternatives_parts vs) n in
      let may = and_parts (have_allowed x) (list_all have_allowed xs) p in
      and_pattern x xs (begins s w (out-Raw w) refl i.0.shape)
      (steps_good (is_rooted_deep w) (steps_in w) i.0.steps tests.0
      (front_nil (alternative_broken s w) (alternatives_broken s vs) b) levels.front may.0)
      (patterns_good vs i.1 tests.1
      (back_nil (alternative_broken s w) (alternatives_broken s vs) b) levels.back may.1)

  pub pattern_good : {ts : List Token} (v : Raw) → Spells xpath ts v → are_sound ts ≡ true
      → is_pattern v ≡ true → predicate_nest_of v ≤ 40 → pattern_broken s v ≡ []
      → is_allowed s v ≡ true → GoodPatterns (patterns_of s v)
  pattern_good v d a i n b p =
      let both = and_parts (has_pattern_tests v) (list_all have_allowed (patterns_of s v)) p in
      let levels : deepest (pattern_parts v) ≤ 40 =
      subst (λ k. k ≤ 40) (pattern_nests v i) n in
      patterns_good (alternatives v) (pattern_steps d a i) both.0 b levels both.1
