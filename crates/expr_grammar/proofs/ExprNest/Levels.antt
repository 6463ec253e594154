-- The nest of nodes, and of lists of parts.
use Rattle.std.proofs.Common.{◌≡◌, ℕ, ◌+◌, ◌≤◌, max, map, Bool, true, false, cond, List, [], ◌∷◌, ◌++◌, refl, ◌∙◌, ap, arith}
use Rattle.std.specs.Prelude.{◌==◌}
use Rattle.std.proofs.lemmas.Bool.{eqb-true}
use Rattle.expr_terms.specs.declared.raws.Raw.TheViews.{out-Raw}
use Rattle.expr_terms.specs.declared.raws.Raw.TheVariants.{outs-Node}
use Rattle.expr_terms.specs.declared.raws.Raw.TheFolds.{map-Raw, fold_out-Raw}
use Rattle.expr_grammar.specs.ExprNest.Terms.{Production, whole_expr, operator_chain}
use Rattle.expr_grammar.specs.ExprNest.RawNames.{Raw, node}
use Rattle.expr_terms.specs.Nest.{Mark, plain, deep, last, Levels, levels_step, levels_of, raw_nest_of, mark_of, before_parts, is_left, is_left_level, is_arms, left_part, arm_part, with_part, with_parts, whole_nest}
use Rattle.expr_grammar.specs.ExprNest.Held.{held}

pub levels-out : (v : Raw) → levels_of v ≡ levels_step (map-Raw Raw Levels levels_of (out-Raw v))
unfolding levels_of
levels-out v = fold_out-Raw _ _ v

pub levels-node : (p : Production) (vs : List Raw) → levels_of (node p vs) ≡ record { nest = whole_nest p (held p vs); mark = mark_of p }
levels-node p vs = levels-out (node p vs) ∙ ap (λ f. levels_step (map-Raw Raw Levels levels_of f)) (outs-Node p vs)

pub nest-node : (p : Production) (vs : List Raw) → raw_nest_of (node p vs) ≡ whole_nest p (held p vs)
nest-node p vs = ap (λ x. x.nest) (levels-node p vs)

-- one more part takes nothing away
left_grows : (a : ℕ) (m : Mark) (n : ℕ) → (a ≤ left_part a m n) × (n ≤ left_part a m n)
left_grows a plain n = (omega arith, omega arith)
left_grows a deep n = (omega arith, omega arith)
left_grows a last n = (omega arith, omega arith)

arm_grows : (a : ℕ) (m : Mark) (n : ℕ) → (a ≤ arm_part a m n) × (n ≤ 1 + arm_part a m n)
arm_grows a plain n = (omega arith, omega arith)
arm_grows a deep n = (omega arith, omega arith)
arm_grows a last n = (omega arith, omega arith)

-- 1 for the parts of a conditional, the last of which has its own level with the whole
abbrev pub slack : Production → ℕ
slack p = cond (is_arms p) 1 0

is_zero : (a : ℕ) → (a == 0) ≡ true → a ≡ 0
is_zero a e = eqb-true a 0 e

pub grows : (p : Production) (a : ℕ) (v : Levels) → (a ≤ with_part p a v) × (v.nest ≤ slack p + with_part p a v)
grows p a v = go (is_left p) (is_arms p) (a == 0) refl
  where
    go : (left arms none : Bool) → (a == 0) ≡ none → (a ≤ cond left (cond none v.nest (left_part a v.mark v.nest)) (cond arms (arm_part a v.mark v.nest) (max a v.nest))) × (v.nest ≤ cond arms 1 0 + cond left (cond none v.nest (left_part a v.mark v.nest)) (cond arms (arm_part a v.mark v.nest) (max a v.nest)))
    go true true true e = let z = is_zero a e in (omega arith, omega arith)
    go true false true e = let z = is_zero a e in (omega arith, omega arith)
    go true true false e = let g = left_grows a v.mark v.nest in (g.0, omega (arith, g.1))
    go true false false e = let g = left_grows a v.mark v.nest in (g.0, omega (arith, g.1))
    go false true none e = arm_grows a v.mark v.nest
    go false false none e = (omega arith, omega arith)

pub parts-grow : (p : Production) (a : ℕ) (vs : List Levels) → a ≤ with_parts p a vs
parts-grow p a [] = omega arith
parts-grow p a (v ∷ vs) = let g = (grows p a v).0 in let h = parts-grow p (with_part p a v) vs in omega arith

pub parts-append : (p : Production) (a : ℕ) (xs ys : List Raw) → with_parts p a (map levels_of (xs ++ ys)) ≡ with_parts p (with_parts p a (map levels_of xs)) (map levels_of ys)
parts-append p a [] ys = refl
parts-append p a (x ∷ xs) ys = parts-append p (with_part p a (levels_of x)) xs ys

pub held-append : (p : Production) (xs ys : List Raw) → held p (xs ++ ys) ≡ with_parts p (held p xs) (map levels_of ys)
held-append p xs ys = parts-append p (before_parts p) xs ys

pub held-grows : (p : Production) (xs ys : List Raw) → held p xs ≤ held p (xs ++ ys)
held-grows p xs ys = let g = parts-grow p (held p xs) (map levels_of ys) in rw (held-append p xs ys) g

pub part-held : (p : Production) (xs ys : List Raw) (v : Raw) → raw_nest_of v ≤ slack p + held p (xs ++ v ∷ ys)
part-held p xs ys v =
    let g = (grows p (held p xs) (levels_of v)).1 in
    let h = parts-grow p (with_part p (held p xs) (levels_of v)) (map levels_of ys) in
    rw (held-append p xs (v ∷ ys)) (omega arith)

pub whole-grows : (p : Production) (a : ℕ) → a ≤ whole_nest p a
whole-grows whole_expr a = omega arith
whole-grows (operator_chain l) a = go (is_left_level l)
  where
    go : (b : Bool) → a ≤ cond b a (1 + a)
    go true = omega arith
    go false = omega arith
whole-grows _ a = omega arith
