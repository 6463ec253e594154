-- The nest of a value is that of its parts, and of one level more where it is a form of its own.
use Rattle.std.proofs.Common.{◌≡◌, ℕ, ◌+◌, ◌≤◌, max, map, Bool, true, false, cond, ◌&&◌, List, [], ◌∷◌, ◌++◌, Option, Some, None, is_some, refl, sym, ◌∙◌, ap, arith}
use Rattle.std.proofs.lemmas.Option.{none-some, same_Some}
use Rattle.expr_terms.specs.declared.raws.Raw.TheViews.{out-Raw}
use Rattle.expr_terms.specs.declared.raws.Raw.TheFolds.{map-Raw}
use Rattle.expr_terms.specs.declared.raws.Raw.TheOpen.{Raw-F, Leaf, Node}
use Rattle.expr_grammar.specs.ExprNest.Terms.{Production, whole_expr, whole_sequence_type, expr_list, next_expr_single, operator_expr as plainly, following_clause, next_for_binding, next_let_binding, next_quantified_binding, next_order_spec, operator_chain, unsigned, rooted, unrooted, steps, filter_step, predicated, name_tested, kind_tested, pi_named, kind_named, direct_constructor, items_type, occurrence_mark, kind_item, atomic_item, part_chars, item_chars, order_direction, parens, else_expr, if_expr}
use Rattle.expr_grammar.specs.ExprNest.RawNames.{Raw, node}
use Rattle.expr_terms.specs.Productions.{passes}
use Rattle.expr_terms.specs.Raws.{is_parens, is_otherwise, is_conditional, as_parens, as_chain, only_chain, as_inner_chain, only_inner, chain_or, as_else, build_parens, build_else, build_chain, build_plain, build}
use Rattle.expr_terms.specs.Nest.{Mark, plain, deep, last, Levels, levels_step, levels_of, raw_nest_of, is_left_level, is_arms, arm_part, with_parts, whole_nest}
use Rattle.expr_grammar.specs.ExprNest.Held.{held, is_alone, built_nest}
use Rattle.expr_grammar.proofs.ExprNest.Levels.{levels-out, nest-node, held-append, held-grows, part-held, whole-grows}

never : {P : Type 0} → false ≡ true → P
never e = cc

abbrev counted : Raw-F Raw → Levels
counted f = levels_step (map-Raw Raw Levels levels_of f)

-- where a production passes its only part on
one_held : (p : Production) (v : Raw) → passes p ≡ true → raw_nest_of v ≡ held p (v ∷ [])
one_held whole_expr v e = omega arith
one_held whole_sequence_type v e = omega arith
one_held expr_list v e = omega arith
one_held next_expr_single v e = omega arith
one_held plainly v e = omega arith
one_held following_clause v e = omega arith
one_held next_for_binding v e = omega arith
one_held next_let_binding v e = omega arith
one_held next_quantified_binding v e = omega arith
one_held next_order_spec v e = omega arith
one_held (operator_chain l) v e = go (is_left_level l)
  where
    go : (b : Bool) → raw_nest_of v ≡ cond b (raw_nest_of v) (max 0 (raw_nest_of v))
    go true = refl
    go false = omega arith
one_held unsigned v e = omega arith
one_held rooted v e = omega arith
one_held unrooted v e = omega arith
one_held steps v e = refl
one_held filter_step v e = omega arith
one_held predicated v e = omega arith
one_held name_tested v e = omega arith
one_held kind_tested v e = omega arith
one_held pi_named v e = omega arith
one_held kind_named v e = omega arith
one_held direct_constructor v e = omega arith
one_held items_type v e = omega arith
one_held occurrence_mark v e = omega arith
one_held kind_item v e = omega arith
one_held atomic_item v e = omega arith
one_held part_chars v e = omega arith
one_held item_chars v e = omega arith
one_held order_direction v e = omega arith
one_held _ v e = never e

plain_nest : (p : Production) (vs : List Raw) → raw_nest_of (build_plain p vs) ≡ cond (is_alone vs && passes p) (held p vs) (whole_nest p (held p vs))
plain_nest p [] = nest-node p []
plain_nest p (v ∷ []) = go (passes p) refl
  where
    go : (b : Bool) → passes p ≡ b → raw_nest_of (cond b v (node p (v ∷ []))) ≡ cond b (held p (v ∷ [])) (whole_nest p (held p (v ∷ [])))
    go true e = one_held p v e
    go false e = nest-node p (v ∷ [])
plain_nest p (v ∷ w ∷ vs) = nest-node p (v ∷ w ∷ vs)

parens_one : (p : Production) (a : ℕ) → is_parens p ≡ true → 1 ≤ whole_nest p a
parens_one parens a e = omega arith
parens_one _ a e = never e

form_one : (f : Raw-F Raw) → as_parens f ≡ true → 1 ≤ (counted f).nest
form_one (Leaf t) e = never e
form_one (Node p ws) e = parens_one p (held p ws) e

parens_nest : (vs : List Raw) → raw_nest_of (build_parens vs) ≡ max 1 (held parens vs)
parens_nest [] = nest-node parens []
parens_nest (v ∷ []) = go (as_parens (out-Raw v)) refl
  where
    go : (b : Bool) → as_parens (out-Raw v) ≡ b → raw_nest_of (cond b v (node parens (v ∷ []))) ≡ max 1 (max 0 (raw_nest_of v))
    go true e =
        let h = form_one (out-Raw v) e in
        let s : raw_nest_of v ≡ (counted (out-Raw v)).nest = ap (λ x. x.nest) (levels-out v) in
        omega arith
    go false e = nest-node parens (v ∷ [])
parens_nest (v ∷ w ∷ vs) = nest-node parens (v ∷ w ∷ vs)

same_arms : (a : ℕ) (vs : List Levels) → with_parts else_expr a vs ≡ with_parts if_expr a vs
same_arms a [] = refl
same_arms a (v ∷ vs) = same_arms (arm_part a v.mark v.nest) vs

abbrev own : List Raw → Levels
own ws = record { nest = 1 + held if_expr ws; mark = plain }

conditional_is : (p : Production) → is_conditional p ≡ true → p ≡ if_expr
conditional_is if_expr e = refl
conditional_is _ e = never e

parens_is : (p : Production) → is_parens p ≡ true → p ≡ parens
parens_is parens e = refl
parens_is _ e = never e

otherwise_is : (p : Production) → is_otherwise p ≡ true → p ≡ else_expr
otherwise_is else_expr e = refl
otherwise_is _ e = never e

-- a conditional
chain_form : (f : Raw-F Raw) (ws : List Raw) → as_chain f ≡ Some ws → counted f ≡ own ws
chain_form (Leaf t) ws e = absurd (none-some _ e)
chain_form (Node p us) ws e = go (is_conditional p) refl e
  where
    go : (b : Bool) → is_conditional p ≡ b → cond b (Some us) None ≡ Some ws → counted (Node p us) ≡ own ws
    go true c e = let q = conditional_is p c in let s : us ≡ ws = same_Some _ _ e in rw (q, s) refl
    go false c e = absurd (none-some _ e)

only_form : (us ws : List Raw) → only_chain us ≡ Some ws → whole_nest parens (held parens us) ≡ 1 + held if_expr ws
only_form [] ws e = absurd (none-some _ e)
only_form (v ∷ []) ws e =
    let s : raw_nest_of v ≡ 1 + held if_expr ws = ap (λ x. x.nest) (levels-out v ∙ chain_form (out-Raw v) ws e) in
    omega arith
only_form (v ∷ w ∷ vs) ws e = absurd (none-some _ e)

inner_form : (f : Raw-F Raw) (ws : List Raw) → as_inner_chain f ≡ Some ws → counted f ≡ own ws
inner_form (Leaf t) ws e = absurd (none-some _ e)
inner_form (Node p us) ws e = go (is_conditional p) (is_parens p) refl refl e
  where
    go : (b d : Bool) → is_conditional p ≡ b → is_parens p ≡ d → cond b (Some us) (cond d (only_chain us) None) ≡ Some ws → counted (Node p us) ≡ own ws
    go true d c f e = let q = conditional_is p c in let s : us ≡ ws = same_Some _ _ e in rw (q, s) refl
    go false true c f e = let q = parens_is p f in let h = only_form us ws e in rw q (ap (λ n. record { nest = n; mark = plain }) h)
    go false false c f e = absurd (none-some _ e)

inner_levels : (v : Raw) (ws : List Raw) → as_inner_chain (out-Raw v) ≡ Some ws → levels_of v ≡ own ws
inner_levels v ws e = levels-out v ∙ inner_form (out-Raw v) ws e

inner_held : (v : Raw) (ws : List Raw) → as_inner_chain (out-Raw v) ≡ Some ws → held else_expr (v ∷ []) ≡ 1 + held if_expr ws
inner_held v ws e = let s = inner_levels v ws e in rw s (omega arith)

else_nest : (vs : List Raw) → raw_nest_of (build_else vs) ≡ cond (only_inner vs) (held else_expr vs) (1 + held else_expr vs)
else_nest [] = nest-node else_expr []
else_nest (v ∷ []) = go (as_inner_chain (out-Raw v)) refl
  where
    go : (o : Option (List Raw)) → as_inner_chain (out-Raw v) ≡ o → raw_nest_of (chain_or o v) ≡ cond (is_some o) (held else_expr (v ∷ [])) (1 + held else_expr (v ∷ []))
    go None e = nest-node else_expr (v ∷ [])
    go (Some ws) e = nest-node else_expr ws ∙ ap (λ n. 1 + n) (same_arms 0 (map levels_of ws)) ∙ sym (inner_held v ws e)
else_nest (v ∷ w ∷ vs) = nest-node else_expr (v ∷ w ∷ vs)

arm_is : (a : ℕ) (m : Mark) (n : ℕ) → arm_part a m n ≡ max a (arm_part 0 m n)
arm_is a plain n = omega arith
arm_is a deep n = omega arith
arm_is a last n = omega arith

abbrev arm : ℕ → Levels → ℕ
arm a v = arm_part a v.mark v.nest

turned : (t a o : Levels) → arm (arm (arm 0 o) a) t ≡ arm (arm (arm 0 t) a) o
turned t a o =
    let x = arm_is (arm 0 o) a.mark a.nest in
    let y = arm_is (arm (arm 0 o) a) t.mark t.nest in
    let z = arm_is (arm 0 t) a.mark a.nest in
    let w = arm_is (arm (arm 0 t) a) o.mark o.nest in
    omega arith

joined : (t a : Levels) (h : ℕ) → arm (arm h a) t ≡ arm_part (arm (arm 0 t) a) last (1 + h)
joined t a h =
    let x = arm_is h a.mark a.nest in
    let y = arm_is (arm h a) t.mark t.nest in
    let z = arm_is (arm 0 t) a.mark a.nest in
    omega arith

last_held : (t a o : Raw) (f : Raw-F Raw) → levels_of o ≡ counted f → held if_expr (as_else o f ++ a ∷ t ∷ []) ≡ held if_expr (t ∷ a ∷ o ∷ [])
last_held t a o (Leaf x) s = turned (levels_of t) (levels_of a) (levels_of o)
last_held t a o (Node p ws) s = go (is_otherwise p) refl
  where
    go : (b : Bool) → is_otherwise p ≡ b → held if_expr (cond b ws (o ∷ []) ++ a ∷ t ∷ []) ≡ held if_expr (t ∷ a ∷ o ∷ [])
    go true e =
        let q = otherwise_is p e in
        let r : levels_of o ≡ record { nest = 1 + held else_expr ws; mark = last } = rw q at s in
        let h = same_arms 0 (map levels_of ws) in
        rw (r, h) (held-append if_expr ws (a ∷ t ∷ []) ∙ joined (levels_of t) (levels_of a) (held if_expr ws))
    go false e = turned (levels_of t) (levels_of a) (levels_of o)

chain_nest : (vs : List Raw) → raw_nest_of (build_chain vs) ≡ 1 + held if_expr vs
chain_nest [] = nest-node if_expr []
chain_nest (t ∷ []) = nest-node if_expr (t ∷ [])
chain_nest (t ∷ a ∷ []) = nest-node if_expr (t ∷ a ∷ [])
chain_nest (t ∷ a ∷ o ∷ []) = nest-node if_expr (as_else o (out-Raw o) ++ a ∷ t ∷ []) ∙ ap (λ n. 1 + n) (last_held t a o (out-Raw o) (levels-out o))
chain_nest (t ∷ a ∷ o ∷ x ∷ vs) = nest-node if_expr (t ∷ a ∷ o ∷ x ∷ vs)

pub nest_of_build : (p : Production) (vs : List Raw) → raw_nest_of (build p vs) ≡ built_nest p (held p vs) vs
nest_of_build parens vs = parens_nest vs
nest_of_build else_expr vs = else_nest vs
nest_of_build if_expr vs = chain_nest vs
nest_of_build p vs = plain_nest p vs

pub built_grows : (p : Production) (a : ℕ) (vs : List Raw) → a ≤ built_nest p a vs
built_grows p a vs = go (is_parens p) (is_otherwise p) (is_conditional p) (only_inner vs) (is_alone vs && passes p)
  where
    go : (b c d e f : Bool) → a ≤ cond b (max 1 a) (cond c (cond e a (1 + a)) (cond d (1 + a) (cond f a (whole_nest p a))))
    go true c d e f = omega arith
    go false true d true f = omega arith
    go false true d false f = omega arith
    go false false true e f = omega arith
    go false false false e true = omega arith
    go false false false e false = whole-grows p a

pub held_less : (p : Production) (us ws : List Raw) → held p us ≤ raw_nest_of (build p (us ++ ws))
held_less p us ws =
    let s = nest_of_build p (us ++ ws) in
    let g = built_grows p (held p (us ++ ws)) (us ++ ws) in
    let h = held-grows p us ws in
    omega arith

plain_part : (p : Production) (us ws : List Raw) (v : Raw) → is_arms p ≡ false → raw_nest_of v ≤ raw_nest_of (build p (us ++ v ∷ ws))
plain_part p us ws v e =
    let s = nest_of_build p (us ++ v ∷ ws) in
    let g = built_grows p (held p (us ++ v ∷ ws)) (us ++ v ∷ ws) in
    let h : raw_nest_of v ≤ 0 + held p (us ++ v ∷ ws) = rw e at (part-held p us ws v) in
    omega arith

else_alone : (us ws : List Raw) (v : Raw) → only_inner (us ++ v ∷ ws) ≡ true → raw_nest_of v ≤ held else_expr (us ++ v ∷ ws)
else_alone [] [] v e = go (as_inner_chain (out-Raw v)) refl e
  where
    go : (o : Option (List Raw)) → as_inner_chain (out-Raw v) ≡ o → is_some o ≡ true → raw_nest_of v ≤ held else_expr (v ∷ [])
    go None c e = never e
    go (Some xs) c e =
        let s = ap (λ x. x.nest) (inner_levels v xs c) in
        let h = inner_held v xs c in
        omega arith
else_alone [] (w ∷ ws) v e = never e
else_alone (u ∷ []) ws v e = never e
else_alone (u ∷ x ∷ us) ws v e = never e

pub part_less : (p : Production) (us ws : List Raw) (v : Raw) → raw_nest_of v ≤ raw_nest_of (build p (us ++ v ∷ ws))
part_less if_expr us ws v =
    let s = nest_of_build if_expr (us ++ v ∷ ws) in
    let h = part-held if_expr us ws v in
    omega arith
part_less else_expr us ws v = go (only_inner (us ++ v ∷ ws)) refl (else_nest (us ++ v ∷ ws))
  where
    go : (b : Bool) → only_inner (us ++ v ∷ ws) ≡ b → raw_nest_of (build_else (us ++ v ∷ ws)) ≡ cond b (held else_expr (us ++ v ∷ ws)) (1 + held else_expr (us ++ v ∷ ws)) → raw_nest_of v ≤ raw_nest_of (build_else (us ++ v ∷ ws))
    go true e s = let h = else_alone us ws v e in omega arith
    go false e s = let h = part-held else_expr us ws v in omega arith
part_less p us ws v = plain_part p us ws v refl
