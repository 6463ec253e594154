-- Conditionals mean what they are printed for.
use Rattle.std.proofs.Common.{◌≡◌, List, [], ◌∷◌, ◌++◌, map, reverse, true, ◌&&◌, refl, sym, ◌∙◌}
use Rattle.std.proofs.Common.{ap, ap₂}
use Rattle.std.proofs.lemmas.Bool.{and_parts}
use Rattle.std.proofs.lemmas.List.{reverse-reverse, reverse-append}
use Rattle.xt_syntax.specs.declared.exprs.Expr.{Expr}
use Rattle.xt_syntax.specs.declared.exprs.Expr.TheVariants as expr
use Rattle.xt_syntax.specs.declared.exprs.Arm.{Arm}
use Rattle.xt_syntax.specs.declared.exprs.Clause.TheViews.{out-Arm}
use Rattle.expr_keys.specs.declared.productions.Production.TheVariants as production
use Rattle.expr_terms.specs.declared.raws.Raw.{Raw}
use Rattle.expr_terms.specs.declared.raws.Raw.TheVariants.{Node as node}
use Rattle.expr_rules.specs.declared.expr_meant.meant.Meant.TheVariants as meant
use Rattle.expr_rules.specs.ExprMeant.Parts.{expr_of}
use Rattle.expr_raws.specs.ExprControl.Lists as lists
use Rattle.expr_raws.specs.ExprControl.Table.{control_value}
use Rattle.expr_resolve.specs.declared.setting.Setting.{Setting}
use Rattle.expr_resolve.specs.Tables.{is_chain, family_of, value_in}
use Rattle.expr_resolve.specs.Folds.{value_of}
use Rattle.expr_raws.specs.PathRaws.Forms.{single, list}
use Rattle.expr_raws.specs.ControlRaws.Operators.{ArmForm, arm_parts, arms_can}
use Rattle.expr_raws.proofs.PathRaws.Values.{value_node, at_means}

same_arm : (a : Arm) → lists.arm (meant.Expr (out-Arm a).test) (meant.Expr (out-Arm a).then) ≡ a
unfolding expr_of
same_arm a = refl

map_back : {A B : Type 0} (f : A → B) (xs : List A) → map f (reverse xs) ≡ reverse (map f xs)
map_back f [] = refl
map_back f (x ∷ xs) = ap (map f) (reverse-append (x ∷ []) xs) ∙ map_append f (reverse xs) (x ∷ [])
    ∙ ap (λ ys. ys ++ f x ∷ []) (map_back f xs)
    ∙ sym (reverse-append (f x ∷ []) (map f xs))
  where
    map_append : {A B : Type 0} (f : A → B) (xs ys : List A)
        → map f (xs ++ ys) ≡ map f xs ++ map f ys
    map_append f [] ys = refl
    map_append f (x ∷ xs) ys = ap (λ zs. f x ∷ zs) (map_append f xs ys)

module _ (s : Setting) where
  -- what the two parts of an arm mean
  pub record ArmMeans (f : ArmForm) (a : Arm) : Type 0 where
    pub test : f.test.can ≡ true → value_of s f.test.raw ≡ meant.Expr (out-Arm a).test
    pub first : f.first.can ≡ true → value_of s f.first.raw ≡ meant.Expr (out-Arm a).then

  module _ (Q : Arm → Type 0) (form : Arm → ArmForm) (means : (a : Arm) → Q a
      → ArmMeans (form a) a) where
    arms_of : (ys : List ((a : Arm) × Q a)) (v : Raw)
        → arms_can (map form (map (λ y. y.0) ys)) ≡ true
        → lists.arms_of (map (value_of s) (arm_parts (map form (map (λ y. y.0) ys)) v))
        ≡ map (λ y. y.0) ys
    arms_of [] v c = refl
    arms_of (y ∷ ys) v c =
        let f = form y.0 in
        let m = means y.0 y.1 in
        let h = and_parts f.test.can (f.first.can && arms_can (map form (map (λ y. y.0) ys))) c in
        let i = and_parts f.first.can (arms_can (map form (map (λ y. y.0) ys))) h.1 in
        ap₂ (λ a arms. a ∷ arms)
        (ap₂ lists.arm (at_means s list f.test _ (m.test h.0)) (at_means s single f.first _
        (m.first i.0)) ∙ same_arm y.0) (arms_of ys v i.1)

    other_of : (fs : List ArmForm) (v : Raw)
        → lists.other_of (map (value_of s) (arm_parts fs v)) ≡ expr_of (value_of s v)
    other_of [] v = refl
    other_of (f ∷ fs) v = other_of fs v

    pub conditional_means : (ys : List ((a : Arm) × Q a)) (v : Raw) (e : Expr)
        → arms_can (map form (map (λ y. y.0) ys)) ≡ true → value_of s v ≡ meant.Expr e
        → value_of s (node production.IfExpr
        (reverse (arm_parts (map form (map (λ y. y.0) ys)) v)))
        ≡ meant.Expr (expr.If (map (λ y. y.0) ys) e)
    unfolding is_chain family_of value_in control_value expr_of
    conditional_means ys v e c h =
        let parts : List Raw = arm_parts (map form (map (λ y. y.0) ys)) v in
        value_node s production.IfExpr (reverse parts)
        ∙ ap (λ ms. meant.Expr (lists.conditional ms))
        (ap reverse (map_back (value_of s) parts) ∙ reverse-reverse (map (value_of s) parts))
        ∙ ap₂ (λ arms x. meant.Expr (expr.If arms x)) (arms_of ys v c)
        (other_of (map form (map (λ y. y.0) ys)) v ∙ ap expr_of h)
