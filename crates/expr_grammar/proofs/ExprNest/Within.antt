-- The levels within predicates, part by part.
use Rattle.std.proofs.Common.{◌≡◌, ℕ, ◌+◌, ◌≤◌, max, map, Bool, true, false, cond, ◌&&◌, List, []}
use Rattle.std.proofs.Common.{◌∷◌, ◌++◌, Option, Some, None, refl, sym, ◌∙◌, ap, subst, arith}
use Rattle.expr_terms.specs.declared.raws.Raw.TheViews.{out-Raw, roll-Raw}
use Rattle.expr_terms.specs.declared.raws.Raw.TheVariants.{outs-Node, outs-Leaf}
use Rattle.expr_terms.specs.declared.raws.Raw.TheFolds.{map-Raw, fold_out-Raw, fold-roll-Raw}
use Rattle.expr_terms.specs.declared.raws.Raw.TheFolds.{ind-Raw}
use Rattle.expr_terms.specs.declared.raws.Raw.TheOpen.{Raw-F, Leaf, Node}
use Rattle.expr_terms.specs.Productions.{passes}
use Rattle.expr_terms.specs.Raws.{is_parens, as_parens, as_inner_chain, chain_or, as_else}
use Rattle.expr_terms.specs.Raws.{build_parens, build_else, build_chain, build_plain, build}
use Rattle.expr_terms.specs.Nest.{Levels, levels_step, levels_of, raw_nest_of, before_parts}
use Rattle.expr_terms.specs.Nest.{is_arms, with_part, with_parts, whole_nest}
use Rattle.expr_grammar.specs.ExprNest.TokenNames.{Token}
use Rattle.expr_grammar.specs.ExprNest.Terms.{Production, parens, else_expr, if_expr, axis_step}
use Rattle.expr_grammar.specs.ExprNest.Terms.{attribute_step, test_step}
use Rattle.expr_grammar.specs.ExprNest.RawNames.{Raw, leaf, node}
use Rattle.expr_grammar.specs.ExprNest.Held.{held, is_alone, built_nest}
use Rattle.expr_grammar.specs.ExprNest.Measures.{is_step, is_outside, Depths, greatest, wholes, withins}
use Rattle.expr_grammar.specs.ExprNest.Measures.{within_of, depths_step, depths_of, predicate_nest_of, widest}
use Rattle.expr_grammar.specs.ExprNest.Measures.{built_within}
use Rattle.expr_grammar.proofs.ExprNest.Levels.{levels-out, nest-node, slack, grows, parts-grow, whole-grows}
use Rattle.expr_grammar.proofs.ExprNest.Built.{nest_of_build}

never : {P : Type 0} → false ≡ true → P
never e = cc

depths-out : (v : Raw) → depths_of v ≡ depths_step (map-Raw Raw Depths depths_of (out-Raw v))
unfolding depths_of
depths-out v = fold_out-Raw _ _ v

depths-roll : (x : Raw-F Raw) → depths_of (roll-Raw x) ≡ depths_step (map-Raw Raw Depths depths_of
    x)
unfolding depths_of
depths-roll x = fold-roll-Raw _ _ x

levels-roll : (x : Raw-F Raw) → levels_of (roll-Raw x) ≡ levels_step (map-Raw Raw Levels levels_of
    x)
unfolding levels_of
levels-roll x = fold-roll-Raw _ _ x

-- both folds count all levels alike
abbrev Same : Raw → Type 0
Same v = (depths_of v).whole ≡ levels_of v

abbrev bare : {P : Raw → Type 0} → List ((v : Raw) × P v) → List Raw
bare ys = map (λ y. y.0) ys

all_same : (ys : List ((v : Raw) × Same v))
    → wholes (map depths_of (bare ys)) ≡ map levels_of (bare ys)
all_same [] = refl
all_same (y ∷ ys) = ap (λ x. x ∷ wholes (map depths_of (bare ys))) y.1
    ∙ ap (λ xs. levels_of y.0 ∷ xs) (all_same ys)

layer_same : (y : Raw-F ((v : Raw) × Same v))
    → (depths_step (map-Raw Raw Depths depths_of (map-Raw ((v : Raw) × Same v) Raw (λ p. p.0)
    y))).whole ≡ levels_step (map-Raw Raw Levels levels_of (map-Raw ((v : Raw) × Same v) Raw (λ p.
    p.0) y))
layer_same (Leaf t) = refl
layer_same (Node p ys) = ap (λ ls. levels_step (Node p ls)) (all_same ys)

pub whole-same : (v : Raw) → (depths_of v).whole ≡ levels_of v
whole-same = ind-Raw Same (λ x y is. ap (λ d. d.whole) (depths-roll x)
    ∙ subst (λ z. (depths_step (map-Raw Raw Depths depths_of z)).whole ≡ levels_step (map-Raw Raw
    Levels levels_of z)) is (layer_same y) ∙ sym (levels-roll x))

wholes-same : (vs : List Raw) → wholes (map depths_of vs) ≡ map levels_of vs
wholes-same [] = refl
wholes-same (v ∷ vs) = ap (λ x. x ∷ wholes (map depths_of vs)) (whole-same v)
    ∙ ap (λ xs. levels_of v ∷ xs) (wholes-same vs)

withins-same : (vs : List Raw) → withins (map depths_of vs) ≡ map predicate_nest_of vs
withins-same [] = refl
withins-same (v ∷ vs) = ap (λ xs. predicate_nest_of v ∷ xs) (withins-same vs)

pub within-node : (p : Production) (vs : List Raw)
    → predicate_nest_of (node p vs) ≡ within_of p (held p vs) (widest vs)
within-node p vs = ap (λ d. d.within) (depths-out (node p vs)
    ∙ ap (λ f. depths_step (map-Raw Raw Depths depths_of f)) (outs-Node p vs))
    ∙ ap (λ ls. within_of p (with_parts p (before_parts p) ls) (greatest (withins (map depths_of
    vs)))) (wholes-same vs) ∙ ap (λ ns. within_of p (held p vs) (greatest ns)) (withins-same vs)

pub within-leaf : (t : Token) → predicate_nest_of (leaf t) ≡ 0
within-leaf t = ap (λ d. d.within) (depths-out (leaf t)
    ∙ ap (λ f. depths_step (map-Raw Raw Depths depths_of f)) (outs-Leaf t))

-- no more levels are within predicates than there are
abbrev Less : Raw → Type 0
Less v = predicate_nest_of v ≤ raw_nest_of v

not_arms : (p : Production) → is_outside p ≡ true → is_arms p ≡ false
not_arms if_expr e = never e
not_arms else_expr e = never e
not_arms _ e = refl

less_held : (p : Production) → is_arms p ≡ false → (a : ℕ) (ys : List ((v : Raw) × Less v))
    → widest (bare ys) ≤ with_parts p a (map levels_of (bare ys))
less_held p e a [] = omega arith
less_held p e a (y ∷ ys) =
    let z : slack p ≡ 0 = rw e refl in
    let g : raw_nest_of y.0 ≤ slack p + with_part p a (levels_of y.0) = (grows p a (levels_of
    y.0)).1 in
    let h = parts-grow p (with_part p a (levels_of y.0)) (map levels_of (bare ys)) in
    let i = less_held p e (with_part p a (levels_of y.0)) ys in
    let l = y.1 in
    omega arith

layer_less : (p : Production) (ys : List ((v : Raw) × Less v))
    → within_of p (held p (bare ys)) (widest (bare ys)) ≤ whole_nest p (held p (bare ys))
layer_less p ys = go (is_step p) (is_outside p) refl
  where
    go : (b c : Bool) → is_outside p ≡ c
        → cond b (held p (bare ys)) (cond c (widest (bare ys)) (whole_nest p (held p (bare ys))))
        ≤ whole_nest p (held p (bare ys))
    go true c e = whole-grows p (held p (bare ys))
    go false true e =
        let g = whole-grows p (held p (bare ys)) in
        let h = less_held p (not_arms p e) (before_parts p) ys in
        omega arith
    go false false e = omega arith

abbrev plain_layer : Raw-F ((v : Raw) × Less v) → Raw-F Raw
plain_layer y = map-Raw ((v : Raw) × Less v) Raw (λ p. p.0) y

layers_less : (y : Raw-F ((v : Raw) × Less v))
    → (depths_step (map-Raw Raw Depths depths_of (plain_layer y))).within ≤ (levels_step (map-Raw
    Raw Levels levels_of (plain_layer y))).nest
layers_less (Leaf t) = omega arith
layers_less (Node p ys) = rw (wholes-same (bare ys), withins-same (bare ys)) (layer_less p ys)

one_less : (x : Raw-F Raw) (y : Raw-F ((v : Raw) × Less v)) → plain_layer y ≡ x → Less (roll-Raw x)
one_less x y is =
    let h = subst (λ z. (depths_step (map-Raw Raw Depths depths_of z)).within ≤ (levels_step
    (map-Raw Raw Levels levels_of z)).nest) is (layers_less y) in
    let d : predicate_nest_of (roll-Raw x) ≡ (depths_step (map-Raw Raw Depths depths_of x)).within
    = ap (λ d. d.within) (depths-roll x) in
    let e : raw_nest_of (roll-Raw x) ≡ (levels_step (map-Raw Raw Levels levels_of x)).nest = ap (λ
    l. l.nest) (levels-roll x) in
    omega arith

pub within-less : (v : Raw) → predicate_nest_of v ≤ raw_nest_of v
within-less = ind-Raw Less one_less

-- more parts
pub widest-append : (xs ys : List Raw) → widest (xs ++ ys) ≡ max (widest xs) (widest ys)
widest-append [] ys = omega arith
widest-append (x ∷ xs) ys = let h = widest-append xs ys in omega arith

pub widest-grows : (xs ys : List Raw) → widest xs ≤ widest (xs ++ ys)
widest-grows xs ys = let h = widest-append xs ys in omega arith

pub widest-part : (xs ys : List Raw) (v : Raw) → predicate_nest_of v ≤ widest (xs ++ v ∷ ys)
widest-part xs ys v = let h = widest-append xs (v ∷ ys) in omega arith

-- a form that counts as a whole
whole_node : (p : Production) (vs : List Raw) → is_step p ≡ false → is_outside p ≡ false
    → predicate_nest_of (node p vs) ≡ raw_nest_of (node p vs)
whole_node p vs e f = within-node p vs ∙ rw (e, f) (sym (nest-node p vs))

whole_form : (f : Raw-F Raw) → as_parens f ≡ true
    → (depths_step (map-Raw Raw Depths depths_of f)).within ≡ (levels_step (map-Raw Raw Levels
    levels_of f)).nest
whole_form (Leaf t) e = never e
whole_form (Node p vs) e = rw (wholes-same vs, is_false p e, not_outside p e) refl
  where
    is_false : (p : Production) → is_parens p ≡ true → is_step p ≡ false
    is_false parens e = refl
    is_false _ e = never e

    not_outside : (p : Production) → is_parens p ≡ true → is_outside p ≡ false
    not_outside parens e = refl
    not_outside _ e = never e

parens_whole : (vs : List Raw) → predicate_nest_of (build_parens vs) ≡ raw_nest_of (build_parens
    vs)
parens_whole [] = whole_node parens [] refl refl
parens_whole (v ∷ []) = go (as_parens (out-Raw v)) refl
  where
    go : (b : Bool) → as_parens (out-Raw v) ≡ b
        → predicate_nest_of (cond b v (node parens (v ∷ []))) ≡ raw_nest_of (cond b v (node parens
        (v ∷ [])))
    go true e = ap (λ d. d.within) (depths-out v) ∙ whole_form (out-Raw v) e
        ∙ sym (ap (λ x. x.nest) (levels-out v))
    go false e = whole_node parens (v ∷ []) refl refl
parens_whole (v ∷ w ∷ vs) = whole_node parens (v ∷ w ∷ vs) refl refl

else_whole : (vs : List Raw) → predicate_nest_of (build_else vs) ≡ raw_nest_of (build_else vs)
else_whole [] = whole_node else_expr [] refl refl
else_whole (v ∷ []) = go (as_inner_chain (out-Raw v))
  where
    go : (o : Option (List Raw)) → predicate_nest_of (chain_or o v) ≡ raw_nest_of (chain_or o v)
    go None = whole_node else_expr (v ∷ []) refl refl
    go (Some ws) = whole_node else_expr ws refl refl
else_whole (v ∷ w ∷ vs) = whole_node else_expr (v ∷ w ∷ vs) refl refl

chain_whole : (vs : List Raw) → predicate_nest_of (build_chain vs) ≡ raw_nest_of (build_chain vs)
chain_whole [] = whole_node if_expr [] refl refl
chain_whole (t ∷ []) = whole_node if_expr (t ∷ []) refl refl
chain_whole (t ∷ a ∷ []) = whole_node if_expr (t ∷ a ∷ []) refl refl
chain_whole (t ∷ a ∷ o ∷ []) = whole_node if_expr (as_else o (out-Raw o) ++ a ∷ t ∷ []) refl
    refl
chain_whole (t ∷ a ∷ o ∷ x ∷ vs) = whole_node if_expr (t ∷ a ∷ o ∷ x ∷ vs) refl refl

step_stays : (p : Production) → passes p ≡ true → is_step p ≡ false
step_stays axis_step e = never e
step_stays attribute_step e = never e
step_stays test_step e = never e
step_stays _ e = refl

plain_within : (p : Production) (vs : List Raw)
    → predicate_nest_of (build_plain p vs) ≡ built_within p (held p vs) (widest vs) (whole_nest p
    (held p vs)) (is_alone vs)
plain_within p [] = within-node p []
plain_within p (v ∷ []) = go (passes p) refl
  where
    only : (c : Bool) → predicate_nest_of v ≡ cond c (max (predicate_nest_of v) 0) (max
        (predicate_nest_of v) 0)
    only true = omega arith
    only false = omega arith

    go : (b : Bool) → passes p ≡ b → predicate_nest_of (cond b v (node p (v ∷ []))) ≡ cond
        (is_step p) (held p (v ∷ [])) (cond (is_outside p) (widest (v ∷ [])) (cond (true && b)
        (widest (v ∷ [])) (whole_nest p (held p (v ∷ [])))))
    go true e = rw (step_stays p e) (only (is_outside p))
    go false e = within-node p (v ∷ [])
plain_within p (v ∷ w ∷ vs) = within-node p (v ∷ w ∷ vs)

pub within_of_build : (p : Production) (vs : List Raw)
    → predicate_nest_of (build p vs) ≡ built_within p (held p vs) (widest vs) (built_nest p (held
    p vs) vs) (is_alone vs)
within_of_build parens vs = parens_whole vs ∙ nest_of_build parens vs ∙ alone (is_alone vs)
  where
    alone : (b : Bool) → built_nest parens (held parens vs) vs ≡ cond (b && false) (widest vs)
        (built_nest parens (held parens vs) vs)
    alone true = refl
    alone false = refl
within_of_build else_expr vs = else_whole vs ∙ nest_of_build else_expr vs ∙ alone (is_alone vs)
  where
    alone : (b : Bool) → built_nest else_expr (held else_expr vs) vs ≡ cond (b && false) (widest
        vs) (built_nest else_expr (held else_expr vs) vs)
    alone true = refl
    alone false = refl
within_of_build if_expr vs = chain_whole vs ∙ nest_of_build if_expr vs
    ∙ alone (is_alone vs)
  where
    alone : (b : Bool) → built_nest if_expr (held if_expr vs) vs ≡ cond (b && false)
        (widest vs) (built_nest if_expr (held if_expr vs) vs)
    alone true = refl
    alone false = refl
within_of_build p vs = plain_within p vs ∙ same (is_alone vs && passes p)
  where
    same : (b : Bool) → cond (is_step p) (held p vs) (cond (is_outside p) (widest vs) (cond b
        (widest vs) (whole_nest p (held p vs)))) ≡ cond (is_step p) (held p vs) (cond (is_outside
        p) (widest vs) (cond b (widest vs) (cond b (held p vs) (whole_nest p (held p vs)))))
    same true = refl
    same false = refl
