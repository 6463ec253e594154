-- Literals with other texts nest no deeper.
use Rattle.std.proofs.Common.{◌≡◌, ℕ, ◌+◌, ◌≤◌, max, List, [], ◌∷◌, map, Bool, true, false, cond}
use Rattle.std.proofs.Common.{refl, sym, ap, subst, ◌∙◌, arith}
use Rattle.std.specs.Prelude.{◌==◌}
use Rattle.std.proofs.lemmas.Bool.{eqb-true}
use Rattle.expr_terms.specs.Nest.{Levels, Mark, plain, deep, last, levels_step, levels_of}
use Rattle.expr_terms.specs.Nest.{raw_nest_of, mark_of, before_parts, is_left, is_left_level, is_arms}
use Rattle.expr_terms.specs.Nest.{left_part, arm_part, with_part, with_parts, whole_nest}
use Rattle.expr_keys.specs.declared.productions.Production.{Production}
use Rattle.expr_keys.specs.declared.productions.Production.TheVariants as production
use Rattle.expr_keys.specs.declared.tokens.Token.{Token}
use Rattle.expr_keys.specs.declared.tokens.Token.TheVariants as token
use Rattle.expr_terms.specs.declared.raws.Raw.{Raw}
use Rattle.expr_terms.specs.declared.raws.Raw.TheVariants.{Leaf as leaf, Node as node, outs-Leaf}
use Rattle.expr_terms.specs.declared.raws.Raw.TheFolds.{map-Raw}
use Rattle.expr_grammar.specs.ExprNest.Held.{held}
use Rattle.expr_grammar.proofs.ExprNest.Levels.{levels-out, levels-node}
use Rattle.xpath_laws.proofs.XpathForms.Swapped.{Swapped, AllSwapped, leaf_same, literal_other, node_same}
use Rattle.xpath_laws.proofs.XpathForms.Swapped.{nothing, both, node_is, leaf_is}

pub record Below (x y : Levels) : Type 0 where
  pub nest : x.nest ≤ y.nest
  pub mark : x.mark ≡ y.mark

left_grows : (a : ℕ) (m : Mark) (n : ℕ) → n ≤ left_part a m n
left_grows a plain n = omega arith
left_grows a deep n = omega arith
left_grows a last n = omega arith

left_below : (a b : ℕ) (m : Mark) (n o : ℕ) → a ≤ b → n ≤ o → left_part a m n ≤ left_part b m o
left_below a b plain n o h i = omega (arith, h, i)
left_below a b deep n o h i = omega (arith, h, i)
left_below a b last n o h i = omega (arith, h, i)

arm_below : (a b : ℕ) (m : Mark) (n o : ℕ) → a ≤ b → n ≤ o → arm_part a m n ≤ arm_part b m o
arm_below a b plain n o h i = omega (arith, h, i)
arm_below a b deep n o h i = omega (arith, h, i)
arm_below a b last n o h i = omega (arith, h, i)

not_zero : (a : ℕ) → (a == 0) ≡ false → a ≡ 0 → ⊥
not_zero a h e = let no : (0 == 0) ≡ false = subst (λ k. (k == 0) ≡ false) e h in absurd cc

part_below : (p : Production) (a b : ℕ) (m : Mark) (n o : ℕ) → a ≤ b → n ≤ o
    → with_part p a (record { nest = n; mark = m }) ≤ with_part p b (record { nest = o; mark = m })
part_below p a b m n o h i = go (is_left p) (is_arms p) (a == 0) (b == 0) refl refl
  where
    go : (left arms x y : Bool) → (a == 0) ≡ x → (b == 0) ≡ y
        → cond left (cond x n (left_part a m n)) (cond arms (arm_part a m n) (max a n))
        ≤ cond left (cond y o (left_part b m o)) (cond arms (arm_part b m o) (max b o))
    go true arms true true d e = i
    go true arms true false d e = let g = left_grows b m o in omega (arith, g, i)
    go true arms false true d e =
        let z = eqb-true b 0 e in absurd (not_zero a d (omega (arith, h, z)))
    go true arms false false d e = left_below a b m n o h i
    go false true x y d e = arm_below a b m n o h i
    go false false x y d e = omega (arith, h, i)

one_below : (p : Production) (a b : ℕ) (x y : Levels) → a ≤ b → Below x y
    → with_part p a x ≤ with_part p b y
one_below p a b x y h g =
    subst (λ m. with_part p a x ≤ with_part p b (record { nest = y.nest; mark = m })) g.mark
    (part_below p a b x.mark x.nest y.nest h g.nest)

abbrev AllBelow : List Raw → List Raw → Type 0
AllBelow [] [] = Unit {0}
AllBelow [] (v ∷ vs) = ⊥
AllBelow (w ∷ ws) [] = ⊥
AllBelow (w ∷ ws) (v ∷ vs) = Below (levels_of w) (levels_of v) × AllBelow ws vs

parts_below : (p : Production) (a b : ℕ) (ws vs : List Raw) → a ≤ b → AllBelow ws vs
    → with_parts p a (map levels_of ws) ≤ with_parts p b (map levels_of vs)
parts_below p a b [] [] h g = h
parts_below p a b [] (v ∷ vs) h g = absurd g
parts_below p a b (w ∷ ws) [] h g = absurd g
parts_below p a b (w ∷ ws) (v ∷ vs) h g =
    parts_below p (with_part p a (levels_of w)) (with_part p b (levels_of v)) ws vs
    (one_below p a b (levels_of w) (levels_of v) h g.0) g.1

whole_below : (p : Production) (a b : ℕ) → a ≤ b → whole_nest p a ≤ whole_nest p b
whole_below (production.OperatorChain l) a b h = go (is_left_level l)
  where
    go : (x : Bool) → cond x a (1 + a) ≤ cond x b (1 + b)
    go true = h
    go false = omega (arith, h)
whole_below _ a b h = omega (arith, h)

pub leaf_levels : (t : Token) → levels_of (leaf t) ≡ record { nest = 0; mark = plain }
leaf_levels t = levels-out (leaf t) ∙ ap (λ f. levels_step (map-Raw Raw Levels levels_of f)) (outs-Leaf t)

same_below : (x y : Levels) → x ≡ y → Below x y
same_below x y e = subst (Below x) e (record { nest = omega arith; mark = refl })

literal_below : (t u : List ℕ) (vs : List Raw)
    → Below (levels_of (node production.Literal (leaf (token.Quoted u) ∷ [])))
    (levels_of (node production.Literal (leaf (token.Quoted t) ∷ vs)))
literal_below t u vs =
    let one : levels_of (node production.Literal (leaf (token.Quoted u) ∷ []))
    ≡ record { nest = 1; mark = plain } =
    levels-node production.Literal (leaf (token.Quoted u) ∷ [])
    ∙ rw (leaf_levels (token.Quoted u)) refl in
    subst (λ x. Below x (levels_of (node production.Literal (leaf (token.Quoted t) ∷ vs)))) (sym one)
    (subst (Below (record { nest = 1; mark = plain }))
    (sym (levels-node production.Literal (leaf (token.Quoted t) ∷ vs)))
    (record { nest = omega arith; mark = refl }))

node_below : (q : Production) (ws vs : List Raw) → AllBelow ws vs
    → Below (levels_of (node q ws)) (levels_of (node q vs))
node_below q ws vs g =
    subst (λ x. Below x (levels_of (node q vs))) (sym (levels-node q ws))
    (subst (Below (record { nest = whole_nest q (held q ws); mark = mark_of q }))
    (sym (levels-node q vs)) (record {
      nest = whole_below q (held q ws) (held q vs)
          (parts_below q (before_parts q) (before_parts q) ws vs (omega arith) g);
      mark = refl;
    }))

module _ (A : List Raw → Type 0) where
  as_are : (v w x y : Raw) → w ≡ x → v ≡ y → Below (levels_of x) (levels_of y)
      → Below (levels_of w) (levels_of v)
  as_are v w x y e f g =
      subst (λ z. Below (levels_of z) (levels_of v)) (sym e)
      (subst (λ z. Below (levels_of x) (levels_of z)) (sym f) g)

  mutual
    swapped_below : {v w : Raw} → Swapped A v w → Below (levels_of w) (levels_of v)
    swapped_below {v = v} {w = w} (leaf_same t a b) =
        as_are v w (leaf t) (leaf t) (leaf_is w t b) (leaf_is v t a)
        (same_below (levels_of (leaf t)) (levels_of (leaf t)) refl)
    swapped_below {v = v} {w = w} (literal_other t u vs a b c) =
        let x = leaf (token.Quoted u) ∷ [] in
        let y = leaf (token.Quoted t) ∷ vs in
        as_are v w (node production.Literal x) (node production.Literal y)
        (node_is w production.Literal x b) (node_is v production.Literal y a) (literal_below t u vs)
    swapped_below {v = v} {w = w} (node_same q vs ws a b c d) =
        as_are v w (node q ws) (node q vs) (node_is w q ws b) (node_is v q vs a)
        (node_below q ws vs (all_below d))

    all_below : {vs ws : List Raw} → AllSwapped A vs ws → AllBelow ws vs
    all_below nothing = tt
    all_below (both s more) = (swapped_below s, all_below more)

  pub no_deeper : {v w : Raw} → Swapped A v w → raw_nest_of w ≤ raw_nest_of v
  no_deeper s = (swapped_below s).nest
