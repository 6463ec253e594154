-- What is known of a production's value, where what is known of its parts is.
use Rattle.std.proofs.Common.{◌≡◌, List, [], ◌∷◌, map, Bool, true, false, cond, Option}
use Rattle.std.proofs.Common.{None, refl, sym, ap, subst, ◌∙◌}
use Rattle.expr_terms.specs.Productions.{body, keeps, passes}
use Rattle.expr_terms.specs.Raws.{build, build_plain, is_parens, is_conditional, is_otherwise}
use Rattle.expr_terms.specs.Raws.{as_inner_chain}
use Rattle.expr_keys.specs.declared.tokens.Token.{Token}
use Rattle.expr_keys.specs.declared.productions.Nonterminal.{Nonterminal}
use Rattle.expr_keys.specs.declared.productions.Nonterminal.TheVariants as nonterminal
use Rattle.expr_keys.specs.declared.productions.Production.{Production}
use Rattle.expr_keys.specs.declared.productions.Production.TheVariants as production
use Rattle.expr_keys.specs.declared.productions.Symbol.{Symbol}
use Rattle.expr_keys.specs.declared.productions.Symbol.TheVariants.{Tok as tok}
use Rattle.expr_terms.specs.declared.raws.Raw.{Raw}
use Rattle.expr_terms.specs.declared.raws.Raw.TheVariants.{Leaf as leaf, Node as node, outs-Leaf}
use Rattle.expr_terms.specs.declared.raws.Raw.TheVariants.{outs-Node}
use Rattle.expr_terms.specs.declared.raws.Raw.TheViews.{out-Raw}
use Rattle.expr_rules.specs.declared.expr_meant.meant.Meant.{Meant}
use Rattle.expr_rules.specs.declared.expr_meant.meant.Meant.TheVariants as meant
use Rattle.expr_resolve.specs.declared.setting.Setting.{Setting}
use Rattle.expr_resolve.specs.Tables.{act, own, end as end_rules, is_chain}
use Rattle.expr_resolve.specs.Folds.{value_of}
use Rattle.sound_expressions.proofs.ExprRegular.Claims.{MeantBy, MadeBy, Kept, OwnKept}
use Rattle.sound_expressions.proofs.ExprRegular.Claims.{IfChain, Claim, Good, Parts, ended, read, part, absent}
use Rattle.sound_expressions.proofs.ExprRegular.Claims.{present, over, more, alone, behind, If}
use Rattle.sound_expressions.proofs.ExprRegular.Claims.{Filled, end, taken, next, without, with, stop, again, bare}
use Rattle.sound_expressions.proofs.ExprRegular.Claims.{given}
use Rattle.sound_expressions.proofs.ExprRegular.Found.{value_leaf, value_node, kept_parts, kept_end}
use Rattle.sound_expressions.proofs.ExprRegular.Lists.{form_expr}

-- what is made of a nonterminal is one
pub made_meant : (n : Nonterminal) (m : Meant) → MadeBy n m → MeantBy n m
made_meant nonterminal.WholeType m x = x
made_meant nonterminal.Arguments m x = x
made_meant nonterminal.ElsePart m x = x
made_meant nonterminal.Clause m x = x
made_meant nonterminal.NextClause m x = x
made_meant nonterminal.ForBinding m x = x
made_meant nonterminal.CommaForBinding m x = x
made_meant nonterminal.LetBinding m x = x
made_meant nonterminal.CommaLetBinding m x = x
made_meant nonterminal.QuantifiedBinding m x = x
made_meant nonterminal.CommaQuantifiedBinding m x = x
made_meant nonterminal.TypeDeclaration m x = x
made_meant nonterminal.PositionalVar m x = x
made_meant nonterminal.WhereClause m x = x
made_meant nonterminal.OrderByClause m x = x
made_meant nonterminal.OrderSpec m x = x
made_meant nonterminal.CommaOrderSpec m x = x
made_meant nonterminal.Direction m x = x
made_meant nonterminal.EmptyPart m x = x
made_meant (nonterminal.Tail l) m x = x
made_meant nonterminal.StepMore m x = x
made_meant nonterminal.NodeTest m x = x
made_meant nonterminal.KindTest m x = x
made_meant nonterminal.PiArgument m x = x
made_meant nonterminal.NamedArgument m x = x
made_meant nonterminal.SequenceType m x = x
made_meant nonterminal.ItemType m x = x
made_meant nonterminal.OccurrenceIndicator m x = x
made_meant nonterminal.SingleType m x = x
made_meant nonterminal.QuestionPart m x = x
made_meant nonterminal.DirElemClosing m x = x
made_meant nonterminal.DirAttribute m x = x
made_meant nonterminal.AttrValueContent m x = x
made_meant nonterminal.DirElemContent m x = x
made_meant _ m x = form_expr m x

good_meant : (s : Setting) (n : Nonterminal) (v : Raw) → Good s n v → Kept s v
    → MeantBy n (value_of s v)
good_meant s nonterminal.ElsePart v g k = tt
good_meant s _ v g k = (g k).0

chain_is : (p : Production) → is_chain p ≡ is_conditional p
unfolding is_chain
chain_is production.IfExpr = refl
chain_is _ = refl

module _ (s : Setting) where
  kept_taken : (p : Production) (first : Bool) (t : Token) (vs : List Raw) (b : Bool)
      → OwnKept s p first (cond b (leaf t ∷ vs) vs)
      → If b (own s p first (meant.Token t) ≡ []) × OwnKept s p (cond b false first) vs
  kept_taken p first t vs true k =
      (subst (λ m. own s p first m ≡ []) (value_leaf s t) k.1, k.2)
  kept_taken p first t vs false k = (tt, k)

  values_taken : (t : Token) (vs : List Raw) (b : Bool)
      → map (value_of s) (cond b (leaf t ∷ vs) vs)
      ≡ cond b (meant.Token t ∷ map (value_of s) vs) (map (value_of s) vs)
  values_taken t vs true = ap (λ m. m ∷ map (value_of s) vs) (value_leaf s t)
  values_taken t vs false = refl

  filled : (p : Production) (first : Bool) {ss : List Symbol} {vs : List Raw} → Parts s ss vs
      → OwnKept s p first vs → Filled s p first ss (map (value_of s) vs)
  filled p first ended k = end
  filled p first (read {c = c} {ss = ss} t {vs = vs} f a q) k =
      let h = kept_taken p first t vs (keeps c) k in
      subst (λ ms. Filled s p first (tok c ∷ ss) ms) (sym (values_taken t vs (keeps c)))
      (taken t f a h.0 (filled p (cond (keeps c) false first) q h.1))
  filled p first (part {n = n} {v = v} g q) k =
      next (good_meant s n v g k.0) k.1 (filled p false q k.2)
  filled p first (absent q) k = without (filled p first q k)
  filled p first (present {n = n} {v = v} g q) k =
      with (good_meant s n v g k.0) k.1 (filled p false q k.2)
  filled p first (over q) k = stop (filled p first q k)
  filled p first (more {n = n} {v = v} g q) k =
      again (good_meant s n v g k.0) k.1 (filled p false q k.2)
  filled p first (alone q) k = bare (filled p first q k)
  filled p first (behind {n = n} {v = v} g q) k =
      given (good_meant s n v g k.0) k.1 (filled p false q k.2)

  not_chain : (p : Production) → is_conditional p ≡ false → is_chain p ≡ false
  not_chain p i = chain_is p ∙ i

  pub no_chain : (p : Production) (vs : List Raw) → is_conditional p ≡ false
      → is_parens p ≡ false → as_inner_chain (out-Raw (node p vs)) ≡ None
  no_chain p vs i j = ap as_inner_chain (outs-Node p vs) ∙ rw (i, j) refl

  pub leaf_claim : (n : Nonterminal) (t : Token) → MadeBy n (meant.Token t)
      → Claim s n (leaf t)
  leaf_claim n t x =
      let y : MadeBy n (value_of s (leaf t)) =
      subst (λ m. MadeBy n m) (sym (value_leaf s t)) x in
      let e : as_inner_chain (out-Raw (leaf t)) ≡ None = ap as_inner_chain (outs-Leaf t) in (
        made_meant n _ y,
        subst (λ (o : Option (List Raw)). IfChain s o (MadeBy n (value_of s (leaf t)))) (sym e) y,
      )

  pub node_claim : (p : Production) (n : Nonterminal) (vs : List Raw) → is_conditional p ≡ false
      → is_parens p ≡ false → Parts s (body p) vs
      → (Filled s p true (body p) (map (value_of s) vs)
      → end_rules s p (map (value_of s) vs) ≡ [] → MadeBy n (act s p (map (value_of s) vs)))
      → Kept s (node p vs) → Claim s n (node p vs)
  node_claim p n vs i j q made k =
      let c = not_chain p i in
      let y : MadeBy n (value_of s (node p vs)) =
      subst (λ m. MadeBy n m) (sym (value_node s p vs c))
      (made (filled p true q (kept_parts s p vs c k)) (kept_end s p vs c k)) in (
        made_meant n _ y,
        subst (λ (o : Option (List Raw)). IfChain s o (MadeBy n (value_of s (node p vs))))
            (sym (no_chain p vs i j)) y,
      )

  built_plain : (p : Production) (vs : List Raw) → passes p ≡ false
      → build_plain p vs ≡ node p vs
  built_plain p [] e = refl
  built_plain p (v ∷ []) e = rw e refl
  built_plain p (v ∷ w ∷ vs) e = refl

  pub built : (p : Production) (vs : List Raw) → is_parens p ≡ false → is_otherwise p ≡ false
      → is_conditional p ≡ false → passes p ≡ false → build p vs ≡ node p vs
  built p vs a b c e = rw (a, b, c) (built_plain p vs e)

  -- a production that adds something to its parts
  pub plain_claim : (p : Production) (n : Nonterminal) {vs : List Raw}
      → is_conditional p ≡ false → is_parens p ≡ false → is_otherwise p ≡ false
      → passes p ≡ false → Parts s (body p) vs
      → ((ms : List Meant) → Filled s p true (body p) ms → end_rules s p ms ≡ []
      → MadeBy n (act s p ms))
      → Kept s (build p vs) → Claim s n (build p vs)
  plain_claim p n {vs} i j o e q made =
      subst (λ v. Kept s v → Claim s n v) (sym (built p vs j o i e))
      (node_claim p n vs i j q (made (map (value_of s) vs)))
