-- What raw values mean, part by part.
use Rattle.std.proofs.Common.{◌≡◌, ℕ, nat_le, List, [], ◌∷◌, ◌++◌, map, reverse, Bool, true, false}
use Rattle.std.proofs.Common.{cond, refl, sym, ◌∙◌, ap, ap₂}
use Rattle.std.proofs.lemmas.Bool.{and_parts}
use Rattle.xt_syntax.specs.declared.exprs.Expr.{Expr}
use Rattle.expr_keys.specs.declared.tokens.Token.{Token}
use Rattle.expr_keys.specs.declared.productions.Production.{Production}
use Rattle.expr_keys.specs.declared.productions.Production.TheVariants as production
use Rattle.expr_terms.specs.declared.raws.Raw.{Raw}
use Rattle.expr_terms.specs.declared.raws.Raw.TheVariants.{Leaf as leaf, Node as node, rolls-Leaf}
use Rattle.expr_terms.specs.declared.raws.Raw.TheVariants.{rolls-Node}
use Rattle.expr_terms.specs.declared.raws.Raw.TheViews.{roll-Raw}
use Rattle.expr_terms.specs.declared.raws.Raw.TheFolds.{map-Raw, fold-roll-Raw}
use Rattle.expr_terms.specs.declared.raws.Raw.TheOpen.{Raw-F, Leaf, Node}
use Rattle.expr_rules.specs.declared.expr_meant.meant.Meant.TheVariants as meant
use Rattle.expr_rules.specs.ExprMeant.Parts.{expr_or}
use Rattle.expr_resolve.specs.ExprPrimaries.ExprPaths.Table.{path_value}
use Rattle.expr_resolve.specs.declared.setting.Setting.{Setting}
use Rattle.expr_resolve.specs.Tables.{act, is_chain, family_of, value_in}
use Rattle.expr_resolve.specs.Folds.{Found, values, found_layer, found_of, value_of}
use Rattle.expr_raws.specs.PathRaws.Forms.{Form, at}

module _ (s : Setting) where
  found-roll : (x : Raw-F Raw) → found_of s (roll-Raw x)
      ≡ found_layer s (map-Raw Raw Found (found_of s) x)
  found-roll x = fold-roll-Raw _ _ x

  pub value_leaf : (t : Token) → value_of s (leaf t) ≡ meant.Token t
  value_leaf t = ap (λ v. value_of s v) (sym (rolls-Leaf t))
      ∙ ap (λ f. f.value) (found-roll (Leaf t))

  values_are : (vs : List Raw) → values (map (found_of s) vs) ≡ map (value_of s) vs
  values_are [] = refl
  values_are (v ∷ vs) = ap (λ ms. value_of s v ∷ ms) (values_are vs)

  pub value_node : (p : Production) (vs : List Raw) → value_of s (node p vs)
      ≡ act s p (cond (is_chain p) (reverse (map (value_of s) vs)) (map (value_of s) vs))
  value_node p vs = ap (λ v. value_of s v) (sym (rolls-Node p vs))
      ∙ ap (λ f. f.value) (found-roll (Node p vs))
      ∙ ap (λ ms. act s p (cond (is_chain p) (reverse ms) ms)) (values_are vs)

  pub parens_mean : (v : Raw) (e : Expr) → value_of s v ≡ meant.Expr e
      → value_of s (node production.Parens (v ∷ [])) ≡ meant.Expr e
  unfolding is_chain family_of value_in path_value expr_or
  parens_mean v e h = value_node production.Parens (v ∷ []) ∙ rw h refl

  pub at_means : (n : ℕ) (f : Form) (e : Expr) → value_of s f.raw ≡ meant.Expr e
      → value_of s (at n f) ≡ meant.Expr e
  at_means n f e h = go (nat_le f.place n)
    where
      go : (b : Bool) → value_of s (cond b f.raw (node production.Parens (f.raw ∷ [])))
          ≡ meant.Expr e
      go true = h
      go false = parens_mean f.raw e h

  pub append_values : (us vs : List Raw)
      → map (value_of s) (us ++ vs) ≡ map (value_of s) us ++ map (value_of s) vs
  append_values [] vs = refl
  append_values (u ∷ us) vs = ap (λ ms. value_of s u ∷ ms) (append_values us vs)
