-- The levels within predicates of a pattern are those of the deepest part of its steps.
use Rattle.std.proofs.Common.{◌≡◌, ℕ, max, true, false, List, [], ◌∷◌}
use Rattle.std.proofs.Common.{◌++◌, map, refl, sym, ap, ◌∙◌, arith}
use Rattle.std.specs.List.{list_all}
use Rattle.std.proofs.lemmas.Bool.{and_parts}
use Rattle.expr_keys.specs.declared.productions.Level.{Level}
use Rattle.expr_keys.specs.declared.productions.Level.TheVariants as unions_level
use Rattle.expr_keys.specs.declared.productions.Production.{Production}
use Rattle.expr_keys.specs.declared.productions.Production.TheVariants as production
use Rattle.expr_keys.specs.declared.tokens.Token.{Token}
use Rattle.expr_terms.specs.declared.raws.Raw.{Raw}
use Rattle.expr_terms.specs.declared.raws.Raw.TheVariants.{rolls-Node}
use Rattle.expr_terms.specs.declared.raws.Raw.TheVariants.{rolls-Leaf}
use Rattle.expr_terms.specs.declared.raws.Raw.TheViews.{out-Raw, roll-Raw, roll-out-Raw}
use Rattle.expr_terms.specs.declared.raws.Raw.TheOpen.{Raw-F, Leaf, Node}
use Rattle.expr_terms.specs.Nest.{Levels, levels_of, raw_nest_of, with_part, with_parts, is_left}
use Rattle.expr_terms.specs.Nest.{is_arms}
use Rattle.expr_grammar.specs.ExprNest.Held.{held}
use Rattle.expr_grammar.specs.ExprNest.Measures.{is_outside, within_of}
use Rattle.expr_grammar.specs.ExprNest.Measures.{predicate_nest_of, widest}
use Rattle.expr_grammar.proofs.ExprNest.Within.{within-node, within-leaf}
use Rattle.pattern_forms.specs.PatternShapes.Shapes.{is_step, is_step_in, is_after}
use Rattle.pattern_forms.specs.PatternShapes.Shapes.{is_after_in, are_steps, is_alternative, is_alternative_in}
use Rattle.pattern_forms.specs.PatternShapes.Shapes.{is_bar, has_bar, is_barred, is_barred_in, is_unions}
use Rattle.pattern_forms.specs.PatternShapes.Shapes.{are_alternatives, is_pattern, is_pattern_in}
use Rattle.pattern_forms.specs.PatternShapes.Shapes.{inner_in}
use Rattle.pattern_syntax.specs.Parts.{barless, barless_in, alternatives_in, steps_in}
use Rattle.pattern_syntax.specs.Parts.{steps_within}
use Rattle.pattern_syntax.specs.Predicates.{parts_in, step_parts, steps_parts, alternatives_parts}
use Rattle.pattern_syntax.specs.Predicates.{pattern_parts, deepest}
use Rattle.pattern_syntax.proofs.BrokenLemmas.{step_itself, itself}
use Rattle.xt_names.proofs.BoolLemmas.{never}

pub deepest-append : (xs ys : List Raw) → deepest (xs ++ ys) ≡ max (deepest xs) (deepest ys)
deepest-append [] ys = omega arith
deepest-append (x ∷ xs) ys = let h = deepest-append xs ys in omega arith

within_out : (v : Raw) (p : Production) (vs : List Raw) → out-Raw v ≡ Node p vs
    → predicate_nest_of v ≡ within_of p (held p vs) (widest vs)
within_out v p vs o = ap predicate_nest_of (sym (roll-out-Raw v) ∙ ap roll-Raw o
    ∙ rolls-Node p vs) ∙ within-node p vs

leaf_out : (v : Raw) (t : Token) → out-Raw v ≡ Leaf t → predicate_nest_of v ≡ 0
leaf_out v t o = ap predicate_nest_of (sym (roll-out-Raw v) ∙ ap roll-Raw o ∙ rolls-Leaf t)
    ∙ within-leaf t

-- the parts of a step stand beside each other
pub part_beside : (p : Production) (a : ℕ) (v : Levels) → is_left p ≡ false → is_arms p ≡ false
    → with_part p a v ≡ max a v.nest
part_beside p a v e f = rw (e, f) refl

beside : (p : Production) (a : ℕ) (vs : List Raw) → is_left p ≡ false → is_arms p ≡ false
    → with_parts p a (map levels_of vs) ≡ max a (deepest vs)
beside p a [] e f = omega arith
beside p a (v ∷ vs) e f =
    let h : with_parts p (max a (raw_nest_of v)) (map levels_of vs) ≡ max (max a (raw_nest_of v))
    (deepest vs) = beside p (max a (raw_nest_of v)) vs e f in
    ap (λ x. with_parts p x (map levels_of vs)) (part_beside p a (levels_of v) e f) ∙ h ∙ turned
  where
    turned : max (max a (raw_nest_of v)) (deepest vs) ≡ max a (max (raw_nest_of v) (deepest vs))
    turned = omega arith

step_in_nest : (v : Raw) (f : Raw-F Raw) → out-Raw v ≡ f → is_step_in f ≡ true
    → predicate_nest_of v ≡ deepest (parts_in f)
step_in_nest v (Leaf t) o e = never e
step_in_nest v (Node production.AxisStep vs) o e = within_out v production.AxisStep vs o
    ∙ beside production.AxisStep 0 vs refl refl ∙ zero_left (deepest vs)
  where
    zero_left : (n : ℕ) → max 0 n ≡ n
    zero_left n = omega arith
step_in_nest v (Node production.AttributeStep vs) o e = within_out v production.AttributeStep vs o
    ∙ beside production.AttributeStep 0 vs refl refl ∙ zero_left (deepest vs)
  where
    zero_left : (n : ℕ) → max 0 n ≡ n
    zero_left n = omega arith
step_in_nest v (Node production.TestStep vs) o e = within_out v production.TestStep vs o
    ∙ beside production.TestStep 0 vs refl refl ∙ zero_left (deepest vs)
  where
    zero_left : (n : ℕ) → max 0 n ≡ n
    zero_left n = omega arith
step_in_nest v (Node p vs) o e = never e

step_nest : (v : Raw) → is_step v ≡ true → predicate_nest_of v ≡ deepest (step_parts v)
step_nest v e = step_in_nest v (out-Raw v) refl e
    ∙ ap (λ x. deepest (parts_in (out-Raw x))) (sym (step_itself v (out-Raw v) e))

only_nest : (n : ℕ) → max n 0 ≡ n
only_nest n = omega arith

after_nest : (v : Raw) (f : Raw-F Raw) → out-Raw v ≡ f → is_after_in f ≡ true
    → predicate_nest_of v ≡ deepest (parts_in (out-Raw (inner_in v f)))
after_nest v (Leaf t) o e = never e
after_nest v (Node production.StepAfter []) o e = never e
after_nest v (Node production.StepAfter (w ∷ [])) o e = within_out v production.StepAfter (w ∷ [])
    o ∙ only_nest (predicate_nest_of w) ∙ step_in_nest w (out-Raw w) refl e
after_nest v (Node production.StepAfter (w ∷ x ∷ ws)) o e = never e
after_nest v (Node production.DeepAfter []) o e = never e
after_nest v (Node production.DeepAfter (w ∷ [])) o e = within_out v production.DeepAfter (w ∷ [])
    o ∙ only_nest (predicate_nest_of w) ∙ step_in_nest w (out-Raw w) refl e
after_nest v (Node production.DeepAfter (w ∷ x ∷ ws)) o e = never e
after_nest v (Node p vs) o e = never e

more_nest : (vs : List Raw) → list_all is_after vs ≡ true → widest vs ≡ deepest (steps_parts vs)
more_nest [] e = refl
more_nest (v ∷ vs) e =
    let h = and_parts (is_after v) (list_all is_after vs) e in
    let a : predicate_nest_of v ≡ deepest (step_parts v) = after_nest v (out-Raw v) refl h.0 in
    let b = more_nest vs h.1 in
    let c = deepest-append (step_parts v) (steps_parts vs) in
    omega arith

all_steps_nest : (vs : List Raw) → are_steps vs ≡ true → widest vs ≡ deepest (steps_parts vs)
all_steps_nest [] e = never e
all_steps_nest (v ∷ vs) e =
    let h = and_parts (is_step v) (list_all is_after vs) e in
    let a : predicate_nest_of v ≡ deepest (step_parts v) = step_nest v h.0 in
    let b = more_nest vs h.1 in
    let c = deepest-append (step_parts v) (steps_parts vs) in
    omega arith

one_step_nest : (v : Raw) → is_step v ≡ true → predicate_nest_of v ≡ deepest (steps_parts (v ∷ []))
one_step_nest v e =
    let a : predicate_nest_of v ≡ deepest (step_parts v) = step_nest v e in
    let c = deepest-append (step_parts v) [] in
    omega arith

alternative_in_nest : (v : Raw) (f : Raw-F Raw) → out-Raw v ≡ f → is_alternative_in f ≡ true
    → predicate_nest_of v ≡ deepest (steps_parts (steps_within v f))
alternative_in_nest v (Leaf t) o e = never e
alternative_in_nest v (Node production.Rooted []) o e = within_out v production.Rooted [] o
alternative_in_nest v (Node production.Rooted (w ∷ ws)) o e = never e
alternative_in_nest v (Node production.RootSteps vs) o e = within_out v production.RootSteps vs o
    ∙ all_steps_nest vs e
alternative_in_nest v (Node production.RootedDeep vs) o e = within_out v production.RootedDeep vs
    o ∙ all_steps_nest vs e
alternative_in_nest v (Node production.Steps vs) o e = within_out v production.Steps vs o
    ∙ all_steps_nest vs e
alternative_in_nest v (Node production.AxisStep vs) o e = one_step_nest v (rw o e)
alternative_in_nest v (Node production.AttributeStep vs) o e = one_step_nest v (rw o e)
alternative_in_nest v (Node production.TestStep vs) o e = one_step_nest v (rw o e)
alternative_in_nest v (Node p vs) o e = never e

one_nest : (v : Raw) → is_alternative v ≡ true
    → predicate_nest_of v ≡ deepest (steps_parts (steps_in v))
one_nest v e = alternative_in_nest v (out-Raw v) refl e

second_nest : (v : Raw) (l : Level) (vs : List Raw)
    → out-Raw v ≡ Node (production.OperatorTail l) vs → has_bar vs ≡ true
    → predicate_nest_of v ≡ deepest (steps_parts (steps_in (barless_in v (Node
    (production.OperatorTail l) vs))))
second_nest v l [] o e = never e
second_nest v l (b ∷ []) o e = never e
second_nest v l (b ∷ w ∷ []) o e =
    let h = and_parts (is_bar (out-Raw b)) (is_alternative w) e in
    within_out v (production.OperatorTail l) (b ∷ w ∷ []) o
    ∙ ap (λ n. max n (max (predicate_nest_of w) 0)) (bar (out-Raw b) refl h.0)
    ∙ turned (predicate_nest_of w) ∙ one_nest w h.1
  where
    turned : (n : ℕ) → max 0 (max n 0) ≡ n
    turned n = omega arith

    bar : (f : Raw-F Raw) → out-Raw b ≡ f → is_bar f ≡ true → predicate_nest_of b ≡ 0
    bar (Leaf t) o e = leaf_out b t o
    bar (Node p us) o e = never e
second_nest v l (b ∷ w ∷ x ∷ vs) o e = never e

barred_nest : (v : Raw) (f : Raw-F Raw) → out-Raw v ≡ f → is_barred_in f ≡ true
    → predicate_nest_of v ≡ deepest (steps_parts (steps_in (barless_in v f)))
barred_nest v (Leaf t) o e = never e
barred_nest v (Node (production.OperatorTail l) vs) o e = let h = and_parts (is_unions l) (has_bar vs)
    e in second_nest v l vs o h.1
barred_nest v (Node p vs) o e = never e

rest_nest : (vs : List Raw) → list_all is_barred vs ≡ true
    → widest vs ≡ deepest (alternatives_parts vs)
rest_nest [] e = refl
rest_nest (v ∷ vs) e =
    let h = and_parts (is_barred v) (list_all is_barred vs) e in
    let a : predicate_nest_of v ≡ deepest (steps_parts (steps_in (barless v))) = barred_nest v
    (out-Raw v) refl h.0 in
    let b = rest_nest vs h.1 in
    let c = deepest-append (steps_parts (steps_in (barless v))) (alternatives_parts vs) in
    omega arith

front_nest : (v : Raw) → is_alternative v ≡ true
    → predicate_nest_of v ≡ deepest (steps_parts (steps_in (barless v)))
front_nest v e = one_nest v e ∙ ap (λ x. deepest (steps_parts (steps_in x))) (sym (itself v
    (out-Raw v) e))

all_nest : (vs : List Raw) → are_alternatives vs ≡ true
    → widest vs ≡ deepest (alternatives_parts vs)
all_nest [] e = never e
all_nest (v ∷ vs) e =
    let h = and_parts (is_alternative v) (list_all is_barred vs) e in
    let a : predicate_nest_of v ≡ deepest (steps_parts (steps_in (barless v))) = front_nest v h.0
    in
    let b = rest_nest vs h.1 in
    let c = deepest-append (steps_parts (steps_in (barless v))) (alternatives_parts vs) in
    omega arith

alone_nest : (v : Raw) → is_alternative v ≡ true
    → predicate_nest_of v ≡ deepest (alternatives_parts (v ∷ []))
alone_nest v e =
    let a : predicate_nest_of v ≡ deepest (steps_parts (steps_in (barless v))) = front_nest v e in
    let c = deepest-append (steps_parts (steps_in (barless v))) [] in
    omega arith

union_nest : (v : Raw) (l : Level) (vs : List Raw) → out-Raw v ≡ Node (production.OperatorChain l) vs
    → is_unions l ≡ true → are_alternatives vs ≡ true
    → predicate_nest_of v ≡ deepest (alternatives_parts vs)
union_nest v l vs o u e = within_out v (production.OperatorChain l) vs o ∙ rw (same l u) (all_nest vs e)
  where
    same : (l : Level) → is_unions l ≡ true → is_outside (production.OperatorChain l) ≡ true
    same unions_level.Union e = refl
    same l e = never e

pattern_in_nest : (v : Raw) (f : Raw-F Raw) → out-Raw v ≡ f → is_pattern_in f ≡ true
    → predicate_nest_of v ≡ deepest (alternatives_parts (alternatives_in v f))
pattern_in_nest v (Leaf t) o e = never e
pattern_in_nest v (Node (production.OperatorChain l) vs) o e = let h = and_parts (is_unions l)
    (are_alternatives vs) e in union_nest v l vs o h.0 h.1
pattern_in_nest v (Node p vs) o e = alone_nest v (rw o e)

pub pattern_nests : (raw : Raw) → is_pattern raw ≡ true
    → predicate_nest_of raw ≡ deepest (pattern_parts raw)
pattern_nests raw e = pattern_in_nest raw (out-Raw raw) refl e
