-- The rules that a pattern breaks as an expression are those of its steps.
use Rattle.std.proofs.Common.{◌≡◌, Bool, true, false, cond, List, [], ◌∷◌, ◌++◌, map}
use Rattle.std.proofs.Common.{reverse, append-nil, refl, sym, ap, ◌∙◌}
use Rattle.std.specs.List.{list_all}
use Rattle.std.proofs.lemmas.Bool.{and_parts}
use Rattle.xt_names.specs.declared.codes.Code.{Code}
use Rattle.expr_keys.specs.declared.tokens.Token.{Token}
use Rattle.expr_keys.specs.declared.productions.Level.{Level}
use Rattle.expr_keys.specs.declared.productions.Level.TheVariants.{Union as union_level}
use Rattle.expr_keys.specs.declared.productions.Production.{Production}
use Rattle.expr_keys.specs.declared.productions.Production.TheVariants as production
use Rattle.expr_terms.specs.declared.raws.Raw.{Raw}
use Rattle.expr_terms.specs.declared.raws.Raw.TheViews.{out-Raw}
use Rattle.expr_terms.specs.declared.raws.Raw.TheFolds.{map-Raw, fold_out-Raw}
use Rattle.expr_terms.specs.declared.raws.Raw.TheOpen.{Raw-F, Leaf, Node}
use Rattle.expr_rules.specs.declared.expr_meant.meant.Meant.{Meant}
use Rattle.expr_rules.specs.Rules.{own_broken, operated_broken, end_broken}
use Rattle.expr_resolve.specs.declared.setting.Setting.{Setting}
use Rattle.expr_resolve.specs.Tables.{own, end, is_chain, is_tag, before_last}
use Rattle.expr_resolve.specs.Folds as folds
use Rattle.expr_resolve.specs.Folds.{Found, found_layer, found_of, broken_of}
use Rattle.expr_resolve.specs.Folds.{parts_values}
use Rattle.pattern_forms.specs.PatternShapes.Shapes.{is_step, is_step_of, is_step_in, is_only_step, is_after}
use Rattle.pattern_forms.specs.PatternShapes.Shapes.{is_after_in, are_steps, is_alternative, is_alternative_in}
use Rattle.pattern_forms.specs.PatternShapes.Shapes.{is_bar, has_bar, is_barred, is_barred_in, is_unions}
use Rattle.pattern_forms.specs.PatternShapes.Shapes.{are_alternatives, is_pattern, is_pattern_in}
use Rattle.pattern_forms.specs.PatternShapes.Shapes.{inner_in}
use Rattle.pattern_syntax.specs.Parts.{barless_in, alternatives_in}
use Rattle.pattern_syntax.specs.Parts.{steps_within}
use Rattle.pattern_syntax.specs.Meant.{steps_broken, alternative_broken, alternatives_broken}
use Rattle.pattern_syntax.specs.Meant.{pattern_broken}
use Rattle.xt_names.proofs.BoolLemmas.{never}
use Rattle.xt_names.specs.Lists.{is_none}

-- the productions of alternatives, which break no rule of their own
abbrev is_joining : Production → Bool
is_joining (production.OperatorChain l) = is_unions l
is_joining (production.OperatorTail l) = is_unions l
is_joining production.Rooted = true
is_joining production.RootSteps = true
is_joining production.RootedDeep = true
is_joining production.Steps = true
is_joining production.StepAfter = true
is_joining production.DeepAfter = true
is_joining p = false

unions_is : (l : Level) → is_unions l ≡ true → l ≡ union_level
unions_is union_level e = refl
unions_is l e = never e

operated_none : (s : Setting) (l : Level) (first : Bool) (m : Meant) → l ≡ union_level
    → own s (production.OperatorTail l) first m ≡ []
unfolding own_broken operated_broken
operated_none s l first m e = rw e refl

own_none : (s : Setting) (p : Production) (first : Bool) (m : Meant) → is_joining p ≡ true
    → own s p first m ≡ []
unfolding own_broken
own_none s (production.OperatorChain l) first m e = refl
own_none s (production.OperatorTail l) first m e = operated_none s l first m (unions_is l e)
own_none s production.Rooted first m e = refl
own_none s production.RootSteps first m e = refl
own_none s production.RootedDeep first m e = refl
own_none s production.Steps first m e = refl
own_none s production.StepAfter first m e = refl
own_none s production.DeepAfter first m e = refl
own_none s p first m e = never e

end_none : (s : Setting) (p : Production) (ms : List Meant) → is_joining p ≡ true → end s p ms ≡ []
unfolding end_broken
end_none s (production.OperatorChain l) ms e = refl
end_none s (production.OperatorTail l) ms e = refl
end_none s production.Rooted ms e = refl
end_none s production.RootSteps ms e = refl
end_none s production.RootedDeep ms e = refl
end_none s production.Steps ms e = refl
end_none s production.StepAfter ms e = refl
end_none s production.DeepAfter ms e = refl
end_none s p ms e = never e

no_tag : (p : Production) → is_joining p ≡ true → is_tag p ≡ false
unfolding is_tag
no_tag production.DirectElement e = never e
no_tag production.ChildElement e = never e
no_tag p e = refl

no_chain : (p : Production) → is_joining p ≡ true → is_chain p ≡ false
unfolding is_chain
no_chain production.IfExpr e = never e
no_chain p e = refl

nothing_before : (b : Bool) (ms : List Meant) → before_last false b ms ≡ []
unfolding before_last
nothing_before true ms = refl
nothing_before false ms = refl

onward : (s : Setting) (p : Production) (seen : List Meant) (fs : List Found)
    → is_joining p ≡ true → folds.steps_broken s p seen fs ≡ folds.all_broken fs
onward s p seen [] e = refl
onward s p seen (f ∷ fs) e =
    ap (λ b. (before_last b (is_none fs) seen ++ (f.broken ++ own s p (is_none seen) f.value)) ++
    folds.steps_broken s p (seen ++ f.value ∷ []) fs) (no_tag p e)
    ∙ ap (λ xs. (xs ++ (f.broken ++ own s p (is_none seen) f.value)) ++ folds.steps_broken s p
    (seen ++ f.value ∷ []) fs) (nothing_before (is_none fs) seen)
    ∙ ap (λ xs. (f.broken ++ xs) ++ folds.steps_broken s p (seen ++ f.value ∷ []) fs) (own_none s
    p (is_none seen) f.value e)
    ∙ ap (λ xs. xs ++ folds.steps_broken s p (seen ++ f.value ∷ []) fs) (append-nil f.broken)
    ∙ ap (λ xs. f.broken ++ xs) (onward s p (seen ++ f.value ∷ []) fs e)

layer_broken : (s : Setting) (p : Production) (fs : List Found) → is_joining p ≡ true
    → (found_layer s (Node p fs)).broken ≡ folds.all_broken fs
layer_broken s p fs e =
    ap (λ xs. folds.parts_broken s p fs ++ xs) (end_none s p (parts_values p fs) e)
    ∙ append-nil (folds.parts_broken s p fs)
    ∙ ap (λ b. cond b (folds.all_broken (reverse fs)) (folds.steps_broken s p [] fs)) (no_chain p
    e)
    ∙ onward s p [] fs e

-- a raw value of such a production
abbrev all_of : Setting → List Raw → List Code
all_of s vs = folds.all_broken (map (found_of s) vs)

node_broken : (s : Setting) (v : Raw) (p : Production) (vs : List Raw) → out-Raw v ≡ Node p vs
    → is_joining p ≡ true → broken_of s v ≡ all_of s vs
node_broken s v p vs o e = ap (λ (f : Found). f.broken) (fold_out-Raw _ _ v)
    ∙ ap (λ (f : Raw-F Raw). (found_layer s (map-Raw Raw Found (found_of s) f)).broken) o
    ∙ layer_broken s p (map (found_of s) vs) e

leaf_broken : (s : Setting) (v : Raw) (t : Token) → out-Raw v ≡ Leaf t → broken_of s v ≡ []
leaf_broken s v t o = ap (λ (f : Found). f.broken) (fold_out-Raw _ _ v)
    ∙ ap (λ (f : Raw-F Raw). (found_layer s (map-Raw Raw Found (found_of s) f)).broken) o

-- a step behind `/` or `//`
pub step_itself : (v : Raw) (f : Raw-F Raw) → is_step_in f ≡ true → inner_in v f ≡ v
step_itself v (Leaf t) e = never e
step_itself v (Node p vs) e = inner p e
  where
    inner : (p : Production) → is_step_of p vs ≡ true → inner_in v (Node p vs) ≡ v
    inner production.StepAfter e = never e
    inner production.DeepAfter e = never e
    inner p e = refl

only_broken : (s : Setting) (v : Raw) (p : Production) (vs : List Raw) → out-Raw v ≡ Node p vs
    → is_joining p ≡ true → is_only_step vs ≡ true
    → (w : Raw) × ((vs ≡ w ∷ []) × (broken_of s v ≡ broken_of s w))
only_broken s v p [] o j e = never e
only_broken s v p (w ∷ []) o j e = (
  w,
  (
    refl,
    node_broken s v p (w ∷ []) o j
        ∙ append-nil (broken_of s w),
  ),
)
only_broken s v p (w ∷ x ∷ ws) o j e = never e

after_broken : (s : Setting) (v : Raw) (f : Raw-F Raw) → out-Raw v ≡ f → is_after_in f ≡ true
    → broken_of s (inner_in v f) ≡ broken_of s v
after_broken s v (Leaf t) o e = never e
after_broken s v (Node production.StepAfter vs) o e = let w = only_broken s v production.StepAfter
    vs o refl e in rw w.1.0 (sym w.1.1)
after_broken s v (Node production.DeepAfter vs) o e = let w = only_broken s v production.DeepAfter
    vs o refl e in rw w.1.0 (sym w.1.1)
after_broken s v (Node p vs) o e = never e

more_broken : (s : Setting) (vs : List Raw) → list_all is_after vs ≡ true
    → steps_broken s vs ≡ all_of s vs
more_broken s [] e = refl
more_broken s (v ∷ vs) e =
    let h = and_parts (is_after v) (list_all is_after vs) e in
    ap (λ xs. xs ++ steps_broken s vs) (after_broken s v (out-Raw v) refl h.0)
    ∙ ap (λ xs. broken_of s v ++ xs) (more_broken s vs h.1)

all_steps_broken : (s : Setting) (vs : List Raw) → are_steps vs ≡ true
    → steps_broken s vs ≡ all_of s vs
all_steps_broken s [] e = never e
all_steps_broken s (v ∷ vs) e =
    let h = and_parts (is_step v) (list_all is_after vs) e in
    ap (λ x. broken_of s x ++ steps_broken s vs) (step_itself v (out-Raw v) h.0)
    ∙ ap (λ xs. broken_of s v ++ xs) (more_broken s vs h.1)

one_step_broken : (s : Setting) (v : Raw) → is_step v ≡ true
    → steps_broken s (v ∷ []) ≡ broken_of s v
one_step_broken s v e = ap (λ x. broken_of s x ++ []) (step_itself v (out-Raw v) e)
    ∙ append-nil (broken_of s v)

-- an alternative
alternative_in_broken : (s : Setting) (v : Raw) (f : Raw-F Raw) → out-Raw v ≡ f
    → is_alternative_in f ≡ true → steps_broken s (steps_within v f) ≡ broken_of s v
alternative_in_broken s v (Leaf t) o e = never e
alternative_in_broken s v (Node production.Rooted []) o e = sym (node_broken s v production.Rooted
    [] o refl)
alternative_in_broken s v (Node production.Rooted (w ∷ ws)) o e = never e
alternative_in_broken s v (Node production.RootSteps vs) o e = all_steps_broken s vs e
    ∙ sym (node_broken s v production.RootSteps vs o refl)
alternative_in_broken s v (Node production.RootedDeep vs) o e = all_steps_broken s vs e
    ∙ sym (node_broken s v production.RootedDeep vs o refl)
alternative_in_broken s v (Node production.Steps vs) o e = all_steps_broken s vs e
    ∙ sym (node_broken s v production.Steps vs o refl)
alternative_in_broken s v (Node production.AxisStep vs) o e = one_step_broken s v (rw o e)
alternative_in_broken s v (Node production.AttributeStep vs) o e = one_step_broken s v (rw o e)
alternative_in_broken s v (Node production.TestStep vs) o e = one_step_broken s v (rw o e)
alternative_in_broken s v (Node p vs) o e = never e

one_broken : (s : Setting) (v : Raw) → is_alternative v ≡ true
    → alternative_broken s v ≡ broken_of s v
one_broken s v e = alternative_in_broken s v (out-Raw v) refl e

-- .. is after no bar
pub itself : (v : Raw) (f : Raw-F Raw) → is_alternative_in f ≡ true → barless_in v f ≡ v
itself v (Leaf t) e = never e
itself v (Node (production.OperatorTail l) vs) e = never e
itself v (Node p vs) e = refl

second_broken : (s : Setting) (v : Raw) (l : Level) (vs : List Raw)
    → out-Raw v ≡ Node (production.OperatorTail l) vs → is_unions l ≡ true → has_bar vs ≡ true
    → alternative_broken s (barless_in v (Node (production.OperatorTail l) vs)) ≡ broken_of s v
second_broken s v l [] o j e = never e
second_broken s v l (b ∷ []) o j e = never e
second_broken s v l (b ∷ w ∷ []) o j e =
    let h = and_parts (is_bar (out-Raw b)) (is_alternative w) e in
    one_broken s w h.1 ∙ sym (node_broken s v (production.OperatorTail l) (b ∷ w ∷ []) o j
    ∙ ap (λ xs. xs ++ (broken_of s w ++ [])) (bar (out-Raw b) refl h.0)
    ∙ append-nil (broken_of s w))
  where
    bar : (f : Raw-F Raw) → out-Raw b ≡ f → is_bar f ≡ true → broken_of s b ≡ []
    bar (Leaf t) o e = leaf_broken s b t o
    bar (Node p us) o e = never e
second_broken s v l (b ∷ w ∷ x ∷ vs) o j e = never e

barred_broken : (s : Setting) (v : Raw) (f : Raw-F Raw) → out-Raw v ≡ f → is_barred_in f ≡ true
    → alternative_broken s (barless_in v f) ≡ broken_of s v
barred_broken s v (Leaf t) o e = never e
barred_broken s v (Node (production.OperatorTail l) vs) o e = let h = and_parts (is_unions l) (has_bar
    vs) e in second_broken s v l vs o h.0 h.1
barred_broken s v (Node p vs) o e = never e

rest_broken : (s : Setting) (vs : List Raw) → list_all is_barred vs ≡ true
    → alternatives_broken s vs ≡ all_of s vs
rest_broken s [] e = refl
rest_broken s (v ∷ vs) e =
    let h = and_parts (is_barred v) (list_all is_barred vs) e in
    ap (λ xs. xs ++ alternatives_broken s vs) (barred_broken s v (out-Raw v) refl h.0)
    ∙ ap (λ xs. broken_of s v ++ xs) (rest_broken s vs h.1)

all_alternatives_broken : (s : Setting) (vs : List Raw) → are_alternatives vs ≡ true
    → alternatives_broken s vs ≡ all_of s vs
all_alternatives_broken s [] e = never e
all_alternatives_broken s (v ∷ vs) e =
    let h = and_parts (is_alternative v) (list_all is_barred vs) e in
    ap (λ x. alternative_broken s x ++ alternatives_broken s vs) (itself v (out-Raw v) h.0)
    ∙ ap (λ xs. xs ++ alternatives_broken s vs) (one_broken s v h.0)
    ∙ ap (λ xs. broken_of s v ++ xs) (rest_broken s vs h.1)

alone_broken : (s : Setting) (v : Raw) → is_alternative v ≡ true
    → alternatives_broken s (v ∷ []) ≡ broken_of s v
alone_broken s v e = ap (λ x. alternative_broken s x ++ []) (itself v (out-Raw v) e)
    ∙ append-nil (alternative_broken s v) ∙ one_broken s v e

pattern_in_broken : (s : Setting) (v : Raw) (f : Raw-F Raw) → out-Raw v ≡ f
    → is_pattern_in f ≡ true → alternatives_broken s (alternatives_in v f) ≡ broken_of s v
pattern_in_broken s v (Leaf t) o e = never e
pattern_in_broken s v (Node (production.OperatorChain l) vs) o e =
    let h = and_parts (is_unions l) (are_alternatives vs) e in
    all_alternatives_broken s vs h.1 ∙ sym (node_broken s v (production.OperatorChain l) vs o h.0)
pattern_in_broken s v (Node p vs) o e = alone_broken s v (rw o e)

pub pattern_breaks : (s : Setting) (raw : Raw) → is_pattern raw ≡ true
    → pattern_broken s raw ≡ broken_of s raw
pattern_breaks s raw e = pattern_in_broken s raw (out-Raw raw) refl e
