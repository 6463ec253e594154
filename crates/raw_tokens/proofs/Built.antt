-- The value of a production with its parts is that node, where the node is kept.
use Rattle.std.proofs.Common.{◌≡◌, Bool, true, false, cond, ◌&&◌, not, List, [], ◌∷◌, refl, sym}
use Rattle.std.proofs.Common.{subst}
use Rattle.expr_terms.specs.Productions.{passes}
use Rattle.expr_terms.specs.Raws.{is_parens, is_otherwise, is_conditional, only_parens}
use Rattle.expr_terms.specs.Raws.{build}
use Rattle.expr_keys.specs.declared.productions.Production.{Production}
use Rattle.expr_keys.specs.declared.productions.Production.TheVariants as production
use Rattle.expr_terms.specs.declared.raws.Raw.{Raw}
use Rattle.expr_terms.specs.declared.raws.Raw.TheVariants.{Node as node}
use Rattle.raw_tokens.specs.Tokens.{raws}
use Rattle.raw_tokens.specs.Stands.{Placed, prints, is_one, is_kept}

pub never : {P : Type 0} → false ≡ true → P
never e = cc

pub false_of : {b : Bool} → not b ≡ true → b ≡ false
false_of {b = true} e = never e
false_of {b = false} e = refl

pub is_the_conditional : (p : Production) → is_conditional p ≡ true → p ≡ production.IfExpr
is_the_conditional production.IfExpr e = refl
is_the_conditional _ e = never e

is_the_parens : (p : Production) → is_parens p ≡ true → p ≡ production.Parens
is_the_parens production.Parens e = refl
is_the_parens _ e = never e

abbrev Plain : Production → Type 0
Plain p = (is_parens p ≡ false) × (is_otherwise p ≡ false) × (is_conditional p ≡ false)

passes_plainly : (p : Production) → passes p ≡ true → Plain p
passes_plainly production.Parens e = never e
passes_plainly production.ElseExpr e = never e
passes_plainly production.IfExpr e = never e
passes_plainly _ e = (refl, refl, refl)

pub handed_on : (p : Production) (v : Raw) → passes p ≡ true → build p (v ∷ []) ≡ v
handed_on p v e = let q = passes_plainly p e in rw (q.0, q.1, q.2, e) refl

in_parens_kept : (vs : List Raw) → only_parens vs ≡ false
    → build production.Parens vs ≡ node production.Parens vs
in_parens_kept [] e = refl
in_parens_kept (v ∷ []) e = rw e refl
in_parens_kept (v ∷ w ∷ vs) e = refl

plainly_kept : (p : Production) (ps : List Placed) → Plain p
    → not (is_one ps && passes p) ≡ true → build p (raws (prints ps)) ≡ node p (raws (prints ps))
plainly_kept p [] q e = rw (q.0, q.1, q.2) refl
plainly_kept p (v ∷ []) q e = rw (q.0, q.1, q.2, false_of e) refl
plainly_kept p (v ∷ w ∷ ps) q e = rw (q.0, q.1, q.2) refl

pub kept : (p : Production) (ps : List Placed) → is_conditional p ≡ false
    → is_otherwise p ≡ false → is_kept p ps ≡ true
    → build p (raws (prints ps)) ≡ node p (raws (prints ps))
kept p ps c o = go (is_parens p) refl
  where
    go : (b : Bool) → is_parens p ≡ b
        → cond b (not (only_parens (raws (prints ps)))) (not (is_one ps && passes p)) ≡ true
        → build p (raws (prints ps)) ≡ node p (raws (prints ps))
    go true b e = subst (λ q. build q (raws (prints ps)) ≡ node q (raws (prints ps)))
        (sym (is_the_parens p b)) (in_parens_kept (raws (prints ps)) (false_of e))
    go false b e = plainly_kept p ps (b, o, c) e
