-- The levels of a part, by what it is.
use Rattle.std.proofs.Common.{◌≡◌, ℕ, zero, suc, ◌+◌, ◌-◌, max, Bool, true, false, cond, List, [], ◌∷◌, ◌++◌, append-nil, drop, refl, sym, subst, ap, ◌∙◌, arith}
use Rattle.expr_terms.specs.declared.raws.Raw.{Raw}
use Rattle.expr_terms.specs.declared.raws.Raw.TheVariants.{Leaf as leaf, Node as node, outs-Leaf}
use Rattle.expr_terms.specs.declared.raws.Raw.TheFolds.{map-Raw}
use Rattle.expr_keys.specs.declared.tokens.Token.{Token}
use Rattle.expr_reader.specs.Terms.{Class, key, Symbol, tok, one, maybe, many, tail, step_expr, step_more, Production, operator_chain, steps, root_steps, rooted_deep}
use Rattle.expr_keys.specs.declared.keys.Key.TheVariants.{Slashes as slashes}
use Rattle.expr_terms.specs.Productions.{body, keeps, repeats}
use Rattle.expr_terms.specs.Raws.{keep}
use Rattle.expr_terms.specs.Nest.{Mark, plain, deep, last, Levels, levels_of, levels_step, mark_of, is_left, is_arms, with_part, left_part, arm_part}
use Rattle.expr_grammar.specs.ExprNest.Held.{held}
use Rattle.expr_grammar.proofs.ExprNest.Levels.{levels-out, levels-node, held-append}
use Rattle.expr_reader.specs.Counts.{is_deep, is_last}

pub mark-leaf : (t : Token) → (levels_of (leaf t)).mark ≡ plain
mark-leaf t = ap (λ x. x.mark) (levels-out (leaf t) ∙ ap (λ f. levels_step (map-Raw Raw Levels levels_of f)) (outs-Leaf t))

pub mark-node : (p : Production) (vs : List Raw) → (levels_of (node p vs)).mark ≡ mark_of p
mark-node p vs = ap (λ x. x.mark) (levels-node p vs)

pub ruleset counts = (mark-leaf, mark-node)

pub left-deep : (a n : ℕ) (m : Mark) → is_deep m ≡ true → left_part a m n ≡ 1 + max (1 + max a 1) n
left-deep a n deep e = refl
left-deep a n plain e = never e
  where
    never : {P : Type 0} → false ≡ true → P
    never e = cc
left-deep a n last e = never e
  where
    never : {P : Type 0} → false ≡ true → P
    never e = cc

pub left-plain : (a n : ℕ) (m : Mark) → is_deep m ≡ false → left_part a m n ≡ 1 + max a n
left-plain a n deep e = never e
  where
    never : {P : Type 0} → true ≡ false → P
    never e = cc
left-plain a n plain e = refl
left-plain a n last e = refl

pub arm-last : (a n : ℕ) (m : Mark) → is_last m ≡ true → arm_part a m n ≡ max a (n - 1)
arm-last a n last e = refl
arm-last a n plain e = never e
  where
    never : {P : Type 0} → false ≡ true → P
    never e = cc
arm-last a n deep e = never e
  where
    never : {P : Type 0} → false ≡ true → P
    never e = cc

pub arm-plain : (a n : ℕ) (m : Mark) → is_last m ≡ false → arm_part a m n ≡ max a n
arm-plain a n last e = never e
  where
    never : {P : Type 0} → true ≡ false → P
    never e = cc
arm-plain a n plain e = refl
arm-plain a n deep e = refl

pub ruleset marks = (left-deep, left-plain, arm-last, arm-plain)

-- a token adds no level
nest-leaf : (t : Token) → levels_of (leaf t) ≡ record { nest = 0; mark = plain }
nest-leaf t = levels-out (leaf t) ∙ ap (λ f. levels_step (map-Raw Raw Levels levels_of f)) (outs-Leaf t)

wrong : {P : Type 0} → false ≡ true → P
wrong e = cc

-- what a production whose parts nest to the left wants is no token that is kept
not_left : (p : Production) (n : ℕ) (c : Class) (ss : List Symbol) → drop n (body p) ≡ tok c ∷ ss → keeps c ≡ true → is_left p ≡ false
not_left (operator_chain l) zero c ss e k = absurd cc
not_left (operator_chain l) (suc zero) c ss e k = go (repeats l) e
  where
    go : (b : Bool) → cond b (many (tail l)) (maybe (tail l)) ∷ [] ≡ tok c ∷ ss → is_left (operator_chain l) ≡ false
    go true e = absurd cc
    go false e = absurd cc
not_left (operator_chain l) (suc (suc zero)) c ss e k = absurd cc
not_left (operator_chain l) (suc (suc (suc n))) c ss e k = absurd cc
not_left steps zero c ss e k = absurd cc
not_left steps (suc zero) c ss e k = absurd cc
not_left steps (suc (suc zero)) c ss e k = absurd cc
not_left steps (suc (suc (suc n))) c ss e k = absurd cc
not_left root_steps zero c ss e k = absurd cc
not_left root_steps (suc zero) c ss e k = absurd cc
not_left root_steps (suc (suc zero)) c ss e k = absurd cc
not_left root_steps (suc (suc (suc n))) c ss e k = absurd cc
not_left rooted_deep zero c ss e k =
    let s : key slashes ≡ c = same e in
    wrong (subst (λ x. keeps x ≡ true) (sym s) k)
  where
    same : tok (key slashes) ∷ one step_expr ∷ many step_more ∷ [] ≡ tok c ∷ ss → key slashes ≡ c
    same e = cc
not_left rooted_deep (suc zero) c ss e k = absurd cc
not_left rooted_deep (suc (suc zero)) c ss e k = absurd cc
not_left rooted_deep (suc (suc (suc zero))) c ss e k = absurd cc
not_left rooted_deep (suc (suc (suc (suc n)))) c ss e k = absurd cc
not_left _ n c ss e k = refl

pub leaf-kept : (p : Production) (n : ℕ) (c : Class) (ss : List Symbol) (t : Token) (vs : List Raw) → drop n (body p) ≡ tok c ∷ ss → held p (vs ++ keep c t []) ≡ held p vs
leaf-kept p n c ss t vs e = go (keeps c) refl
  where
    one_leaf : is_left p ≡ false → with_part p (held p vs) (levels_of (leaf t)) ≡ held p vs
    one_leaf f = rw (nest-leaf t, f) (at (is_arms p))
      where
        at : (b : Bool) → cond b (max (held p vs) 0) (max (held p vs) 0) ≡ held p vs
        at true = omega arith
        at false = omega arith

    go : (b : Bool) → keeps c ≡ b → held p (vs ++ cond b (leaf t ∷ []) []) ≡ held p vs
    go true k = held-append p vs (leaf t ∷ []) ∙ one_leaf (not_left p n c ss e k)
    go false k = rw append-nil refl
