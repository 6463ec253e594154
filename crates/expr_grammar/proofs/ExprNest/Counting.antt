-- What counts of a production so far is no more than what counts of its value, and a part's no
-- more than the whole's.
use Rattle.std.proofs.Common.{◌≡◌, ℕ, ◌+◌, ◌≤◌, Bool, true, false, cond, ◌&&◌, List, [], ◌∷◌, ◌++◌}
use Rattle.std.proofs.Common.{refl, sym, arith}
use Rattle.expr_terms.specs.Productions.{passes}
use Rattle.expr_terms.specs.Raws.{build}
use Rattle.expr_terms.specs.Nest.{raw_nest_of, before_parts, is_arms}
use Rattle.expr_grammar.specs.ExprNest.Terms.{Production, else_expr, if_expr, root_steps, rooted_deep}
use Rattle.expr_grammar.specs.ExprNest.RawNames.{Raw}
use Rattle.expr_grammar.specs.ExprNest.Held.{held, is_alone, built_nest}
use Rattle.expr_grammar.specs.declared.expr_nest.measures.Measure.{Measure}
use Rattle.expr_grammar.specs.declared.expr_nest.measures.Measure.TheVariants.{Whole, Predicates}
use Rattle.expr_grammar.specs.ExprNest.Measures.{is_step, is_outside, predicate_nest_of, widest, held_by}
use Rattle.expr_grammar.specs.ExprNest.Measures.{built_within, nest_by}
use Rattle.expr_grammar.proofs.ExprNest.Levels.{held-grows, slack, part-held}
use Rattle.expr_grammar.proofs.ExprNest.Built.{nest_of_build, built_grows, held_less, part_less}
use Rattle.expr_grammar.proofs.ExprNest.Within.{within-less, widest-grows, widest-part, within_of_build}

never : {P : Type 0} → false ≡ true → P
never e = cc

nothing_before : (p : Production) → is_outside p ≡ false → before_parts p ≡ 0
nothing_before root_steps e = never (sym e)
nothing_before rooted_deep e = never (sym e)
nothing_before _ e = refl

pass_no_arms : (p : Production) → passes p ≡ true → is_arms p ≡ false
pass_no_arms if_expr e = never e
pass_no_arms else_expr e = never e
pass_no_arms _ e = refl

step_no_arms : (p : Production) → is_step p ≡ true → is_arms p ≡ false
step_no_arms if_expr e = never e
step_no_arms else_expr e = never e
step_no_arms _ e = refl

-- a production that passes its only part
module _ (p : Production) (passing : passes p ≡ true) (inside : is_outside p ≡ false) where
  abbrev value : List Raw → ℕ
  value vs = cond (is_alone vs && true) (widest vs) (built_nest p (held p vs) vs)

  more_than : (u w : Raw) (ws : List Raw)
      → widest (u ∷ []) ≤ built_nest p (held p (u ∷ w ∷ ws)) (u ∷ w ∷ ws)
  more_than u w ws =
      let z : slack p ≡ 0 = rw (pass_no_arms p passing) refl in
      let h : raw_nest_of u ≤ slack p + held p (u ∷ w ∷ ws) = part-held p [] (w ∷ ws) u in
      let g = built_grows p (held p (u ∷ w ∷ ws)) (u ∷ w ∷ ws) in
      let l = within-less u in
      omega arith

  passing_less : (us ws : List Raw) → cond (is_alone us && true) (widest us) (held p us) ≤ value
      (us ++ ws)
  passing_less [] ws = let z = nothing_before p inside in omega arith
  passing_less (u ∷ []) [] = omega arith
  passing_less (u ∷ []) (w ∷ ws) = more_than u w ws
  passing_less (u ∷ x ∷ us) ws =
      let g = built_grows p (held p (u ∷ x ∷ (us ++ ws))) (u ∷ x ∷ (us ++ ws)) in
      let h = held-grows p (u ∷ x ∷ us) ws in
      omega arith

held_within : (p : Production) (us ws : List Raw)
    → held_by Predicates p us ≤ built_within p (held p (us ++ ws)) (widest (us ++ ws)) (built_nest
    p (held p (us ++ ws)) (us ++ ws)) (is_alone (us ++ ws))
held_within p us ws = go (is_step p) (is_outside p) (passes p) refl refl
  where
    go : (b c d : Bool) → is_outside p ≡ c → passes p ≡ d
        → cond b (held p us) (cond c (widest us) (cond (is_alone us && d) (widest us) (held p
        us))) ≤ cond b (held p (us ++ ws)) (cond c (widest (us ++ ws)) (cond (is_alone (us ++ ws)
        && d) (widest (us ++ ws)) (built_nest p (held p (us ++ ws)) (us ++ ws))))
    go true c d e f = held-grows p us ws
    go false true d e f = widest-grows us ws
    go false false true e f = passing_less p f e us ws
    go false false false e f = at (is_alone us) (is_alone (us ++ ws))
      where
        at : (a z : Bool) → cond (a && false) (widest us) (held p us) ≤ cond (z && false) (widest
            (us ++ ws)) (built_nest p (held p (us ++ ws)) (us ++ ws))
        at a z =
            let g = built_grows p (held p (us ++ ws)) (us ++ ws) in
            let h = held-grows p us ws in
            both a z (omega arith)
          where
            both : (a z : Bool) → held p us ≤ built_nest p (held p (us ++ ws)) (us ++ ws)
                → cond (a && false) (widest us) (held p us) ≤ cond (z && false) (widest (us ++
                ws)) (built_nest p (held p (us ++ ws)) (us ++ ws))
            both true true h = h
            both true false h = h
            both false true h = h
            both false false h = h

pub held_less_by : (m : Measure) (p : Production) (us ws : List Raw)
    → held_by m p us ≤ nest_by m (build p (us ++ ws))
held_less_by Whole p us ws = held_less p us ws
held_less_by Predicates p us ws = rw (within_of_build p (us ++ ws)) (held_within p us ws)

part_within : (p : Production) (us ws : List Raw) (v : Raw)
    → predicate_nest_of v ≤ built_within p (held p (us ++ v ∷ ws)) (widest (us ++ v ∷ ws))
    (built_nest p (held p (us ++ v ∷ ws)) (us ++ v ∷ ws)) (is_alone (us ++ v ∷ ws))
part_within p us ws v = go (is_step p) (is_outside p) (is_alone (us ++ v ∷ ws) && passes p) refl
  where
    less : predicate_nest_of v ≤ raw_nest_of v
    less = within-less v

    part : predicate_nest_of v ≤ widest (us ++ v ∷ ws)
    part = widest-part us ws v

    go : (b c d : Bool) → is_step p ≡ b → predicate_nest_of v ≤ cond b (held p (us ++ v ∷ ws))
        (cond c (widest (us ++ v ∷ ws)) (cond d (widest (us ++ v ∷ ws)) (built_nest p (held p (us
        ++ v ∷ ws)) (us ++ v ∷ ws))))
    go true c d e =
        let z : slack p ≡ 0 = rw (step_no_arms p e) refl in
        let h : raw_nest_of v ≤ slack p + held p (us ++ v ∷ ws) = part-held p us ws v in
        let l = less in
        omega arith
    go false true d e = part
    go false false true e = part
    go false false false e =
        let s = nest_of_build p (us ++ v ∷ ws) in
        let h = part_less p us ws v in
        let l = less in
        omega arith

pub part_less_by : (m : Measure) (p : Production) (us ws : List Raw) (v : Raw)
    → nest_by m v ≤ nest_by m (build p (us ++ v ∷ ws))
part_less_by Whole p us ws v = part_less p us ws v
part_less_by Predicates p us ws v = rw (within_of_build p (us ++ v ∷ ws)) (part_within p us ws v)
