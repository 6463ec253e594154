-- Chains of conditions, of which the last part is none.
use Rattle.std.proofs.Common.{◌≡◌, ◌≤◌, ℕ, suc, List, [], ◌∷◌, ◌++◌, map, sym, ap, arith, subst, ◌∙◌}
use Rattle.std.proofs.lemmas.Bool.{and_parts, not-true}
use Rattle.std.specs.Prelude.{true, not, ◌&&◌}
use Rattle.xt_forms.specs.Nest.{arm_nest_of}
use Rattle.xt_forms.specs.Regular.{every, is_some_at_all, expr_facts_of, is_regular_arm, is_regular_expr}
use Rattle.xt_syntax.specs.declared.exprs.Expr.{Expr}
use Rattle.xt_syntax.specs.declared.exprs.Arm.{Arm}
use Rattle.xt_syntax.specs.declared.exprs.Clause.TheOpen.{If}
use Rattle.xt_syntax.specs.declared.exprs.Clause.TheViews.{roll-Expr, out-Expr, roll-out-Expr}
use Rattle.carried_exprs.specs.Forms.{ExprForm}
use Rattle.carried_exprs.proofs.NestRolled.{nest_expr_rolled}
use Rattle.carried_exprs.proofs.RegularRolled.{regular_expr_rolled}
use Rattle.translated_forms.specs.Forms.{chain_form, if_chain}
use Rattle.translated_forms.proofs.Fine.{Fine, FineArm, Every, none, more, higher}
use Rattle.translated_forms.proofs.FineFlows.{fine_if_many}
use Rattle.xt_names.specs.Lists.{greatest}

arms_back : (n : ℕ) (arms : List Arm) → greatest (map arm_nest_of arms) ≤ n →
    every (map is_regular_arm arms) ≡ true → Every (FineArm n) arms
arms_back n [] h i = none
arms_back n (a ∷ arms) h i =
    let p = and_parts (is_regular_arm a) (every (map is_regular_arm arms)) i in
    more (record { nests = omega arith; is_regular = p.0 }) (arms_back n arms (omega arith) p.1)

pub joined_arms : (n : ℕ) (xs ys : List Arm) → Every (FineArm n) xs → Every (FineArm n) ys →
    Every (FineArm n) (xs ++ ys)
joined_arms n [] ys h i = i
joined_arms n (x ∷ xs) ys (more h rest) i = more h (joined_arms n xs ys rest i)

fine_chain_form : (n : ℕ) (a : Arm) (arms : List Arm) (x : ExprForm) → Every (FineArm n) (a ∷ arms) →
    Fine n (roll-Expr x) → Fine (suc n) (chain_form (a ∷ arms) x)
fine_chain_form n a arms (If others last) h i =
    let g = nest_expr_rolled (If others last) in let j = i.nests in
    let r : (((is_some_at_all (map is_regular_arm others) && every (map is_regular_arm others))
    && is_regular_expr last) && not (expr_facts_of last).is_if) ≡ true =
    sym (ap (λ f. f.regular) (regular_expr_rolled (If others last))) ∙ i.is_regular in
    let p = and_parts ((is_some_at_all (map is_regular_arm others) && every (map is_regular_arm others))
    && is_regular_expr last) (not (expr_facts_of last).is_if) r in
    let q = and_parts (is_some_at_all (map is_regular_arm others) && every (map is_regular_arm others))
    (is_regular_expr last) p.0 in
    let s = and_parts (is_some_at_all (map is_regular_arm others)) (every (map is_regular_arm others)) q.0 in
    fine_if_many n a (arms ++ others) last
    (joined_arms n (a ∷ arms) others h (arms_back n others (omega arith) s.1))
    (record { nests = omega arith; is_regular = q.1 }) (not-true (expr_facts_of last).is_if p.1)
fine_chain_form n a arms x h i =
    fine_if_many n a arms (roll-Expr x) h i (ap (λ f. f.is_if) (regular_expr_rolled x))

pub fine_if_chain : (n : ℕ) (a : Arm) (arms : List Arm) (other : Expr) →
    Every (FineArm n) (a ∷ arms) → Fine n other → Fine (suc n) (if_chain (a ∷ arms) other)
unfolding if_chain
fine_if_chain n a arms other h i =
    fine_chain_form n a arms (out-Expr other) h (subst (Fine n) (sym (roll-out-Expr other)) i)

pub fine_chain : (n : ℕ) (arms : List Arm) (other : Expr) →
    Every (FineArm n) arms → Fine n other → Fine (suc n) (if_chain arms other)
unfolding if_chain
fine_chain n [] other h i = higher (suc n) (omega arith) i
fine_chain n (a ∷ arms) other h i = fine_if_chain n a arms other h i
