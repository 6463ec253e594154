-- Chains of `if`s, and parentheses.
use Rattle.std.proofs.Common.{◌≡◌, List, [], ◌∷◌, ◌++◌, map, reverse, Bool, true, false, cond, Option}
use Rattle.std.proofs.Common.{Some, None, refl, sym, ap, subst, ◌∙◌}
use Rattle.std.proofs.lemmas.List.{reverse-append, append_assoc, map-append}
use Rattle.xt_syntax.specs.declared.exprs.Expr.{Expr}
use Rattle.expr_terms.specs.Raws.{in_parens, in_else, in_chain, as_parens, as_chain}
use Rattle.expr_terms.specs.Raws.{as_inner_chain, only_chain, as_else, chain_or, is_parens}
use Rattle.expr_terms.specs.Raws.{is_conditional}
use Rattle.expr_keys.specs.declared.productions.Nonterminal.TheVariants as nonterminal
use Rattle.expr_keys.specs.declared.productions.Production.{Production}
use Rattle.expr_keys.specs.declared.productions.Production.TheVariants as production
use Rattle.expr_terms.specs.declared.raws.Raw.{Raw}
use Rattle.expr_terms.specs.declared.raws.Raw.TheVariants.{Node as node, outs-Node, rolls-Node}
use Rattle.expr_terms.specs.declared.raws.Raw.TheViews.{out-Raw, roll-Raw, roll-out-Raw}
use Rattle.expr_terms.specs.declared.raws.Raw.TheOpen.{Raw-F, Leaf, Node}
use Rattle.expr_rules.specs.declared.expr_meant.meant.Meant.{Meant}
use Rattle.expr_rules.specs.declared.expr_meant.meant.Meant.TheVariants as meant
use Rattle.expr_rules.specs.ExprMeant.Parts.{expr_of}
use Rattle.expr_control.specs.Lists.{arm, arms_of, other_of, conditional}
use Rattle.expr_control.specs.Table.{control_value}
use Rattle.expr_resolve.specs.declared.setting.Setting.{Setting}
use Rattle.expr_resolve.specs.Tables.{family_of, value_in, is_chain}
use Rattle.expr_resolve.specs.Folds.{value_of}
use Rattle.sound_expressions.specs.SoundForms.Sound.{SoundPrefixes}
use Rattle.sound_expressions.proofs.SoundForms.FormLemmas.{Form, AllArms, fine_if}
use Rattle.sound_expressions.proofs.ExprRegular.Claims.{IsExpr, expr_is, IsForm, form_is, Kept, EachKept, AreArms}
use Rattle.sound_expressions.proofs.ExprRegular.Claims.{IsChain, IfChain, Claim, IsElse, Good}
use Rattle.sound_expressions.proofs.ExprRegular.Found.{value_node, value_chain, kept_parts, chain_each}
use Rattle.sound_expressions.proofs.ExprRegular.Found.{each_chain, parens_kept}
use Rattle.sound_expressions.proofs.ExprRegular.Lists.{form_expr}
use Rattle.sound_expressions.proofs.ExprRegular.PathProductions.{parens_same, empty_made}

-- what the parts of a chain give in reading order
record Ends (ms : List Meant) : Type 0 where
  arms : AllArms (arms_of ms)
  other : IsForm (meant.Expr (other_of ms))

last_ends : (m : Meant) → IsForm m → Ends (m ∷ [])
unfolding expr_of
last_ends _ (form_is f) = record { arms = tt; other = form_is f }

more_ends : (t a : Meant) (ms : List Meant) → IsExpr t → IsExpr a → Ends ms → Ends (t ∷ a ∷ ms)
unfolding expr_of
more_ends _ _ ms (expr_is f) (expr_is g) e =
    record { arms = ((f, g), e.arms); other = e.other }

form_so : (z : Expr) → IsForm (meant.Expr z) → Form z
form_so _ (form_is h) = h

if_form : (t a : Meant) (ms : List Meant) → IsExpr t → IsExpr a → Ends ms
    → IsExpr (meant.Expr (conditional (t ∷ a ∷ ms)))
unfolding expr_of
if_form _ _ ms (expr_is {e = x} f) (expr_is {e = y} g) e =
    expr_is (fine_if (arm (meant.Expr x) (meant.Expr y)) (arms_of ms) (other_of ms)
    ((f, g), e.arms) (form_so (other_of ms) e.other))

module _ (s : Setting) where
  abbrev back : List Raw → List Meant
  back vs = reverse (map (value_of s) vs)

  back_two : (a t : Raw) (vs : List Raw) (ms : List Meant)
      → back (a ∷ t ∷ vs) ++ ms ≡ back vs ++ (value_of s t ∷ value_of s a ∷ ms)
  back_two a t vs ms =
      ap (λ xs. xs ++ ms) (reverse-append (value_of s a ∷ value_of s t ∷ []) (map (value_of s) vs))
      ∙ append_assoc (back vs) (value_of s t ∷ value_of s a ∷ []) ms

  arms_end : (vs : List Raw) (ms : List Meant) → AreArms s vs → Ends ms → Ends (back vs ++ ms)
  arms_end [] ms a e = e
  arms_end (v ∷ []) ms a e = absurd a
  arms_end (a ∷ t ∷ vs) ms h e =
      subst Ends (sym (back_two a t vs ms))
      (arms_end vs (value_of s t ∷ value_of s a ∷ ms) h.2
      (more_ends (value_of s t) (value_of s a) ms h.1 h.0 e))

  chain_ends : (vs : List Raw) → IsChain s vs → Ends (back vs)
  chain_ends [] c = absurd c
  chain_ends (v ∷ vs) c =
      subst Ends (sym (reverse-append (value_of s v ∷ []) (map (value_of s) vs)))
      (arms_end vs (value_of s v ∷ []) c.1 (last_ends (value_of s v) c.0))

  arms_more : (vs : List Raw) (a t : Raw) → AreArms s vs → IsExpr (value_of s a)
      → IsExpr (value_of s t) → AreArms s (vs ++ a ∷ t ∷ [])
  arms_more [] a t h x y = (x, y, tt)
  arms_more (w ∷ []) a t h x y = absurd h
  arms_more (w ∷ z ∷ ws) a t h x y = (h.0, h.1, arms_more ws a t h.2 x y)

  -- a chain with one more arm at its front
  chain_more : (vs : List Raw) (a t : Raw) → IsChain s vs → IsExpr (value_of s a)
      → IsExpr (value_of s t) → IsChain s (vs ++ a ∷ t ∷ [])
  chain_more [] a t c x y = absurd c
  chain_more (v ∷ vs) a t c x y = (c.0, arms_more vs a t c.1 x y)

  back_front : (vs : List Raw) (a t : Raw)
      → back (vs ++ a ∷ t ∷ []) ≡ value_of s t ∷ value_of s a ∷ back vs
  back_front vs a t = ap reverse (map-append (value_of s) vs (a ∷ t ∷ []))
      ∙ reverse-append (map (value_of s) vs) (value_of s a ∷ value_of s t ∷ [])

  conditional_meant : (vs : List Raw) (a t : Raw) → IsChain s vs → IsExpr (value_of s a)
      → IsExpr (value_of s t) → IsExpr (value_of s (node production.IfExpr (vs ++ a ∷ t ∷ [])))
  unfolding family_of value_in control_value
  conditional_meant vs a t c x y =
      subst IsExpr (sym (value_chain s (vs ++ a ∷ t ∷ [])))
      (subst (λ ms. IsExpr (meant.Expr (conditional ms))) (sym (back_front vs a t))
      (if_form (value_of s t) (value_of s a) (back vs) y x (chain_ends vs c)))

  each_front : (us vs : List Raw) → EachKept s (us ++ vs) → EachKept s us × EachKept s vs
  each_front [] vs k = (tt, k)
  each_front (u ∷ us) vs k = let r = each_front us vs k.1 in ((k.0, r.0), r.1)

  is_chain_node : (vs : List Raw)
      → as_inner_chain (out-Raw (node production.IfExpr vs)) ≡ Some vs
  is_chain_node vs = ap as_inner_chain (outs-Node production.IfExpr vs)

  -- `if (t) then a else ..`
  pub chain_good : (t a l : Raw) → Good s nonterminal.Expr t → Good s nonterminal.ExprSingle a
      → IsElse s l → Good s nonterminal.ExprSingle (in_chain t a l)
  chain_good t a l g h e = subst (λ v. Kept s v → Claim s nonterminal.ExprSingle v)
      (ap (λ f. node production.IfExpr (as_else l f ++ a ∷ t ∷ [])) (sym e.is)) go
    where
      go : Kept s (node production.IfExpr (e.parts ++ a ∷ t ∷ []))
          → Claim s nonterminal.ExprSingle (node production.IfExpr (e.parts ++ a ∷ t ∷ []))
      go k =
          let us = e.parts ++ a ∷ t ∷ [] in
          let r = each_front e.parts (a ∷ t ∷ []) (chain_each s us k) in
          let c = e.good r.0 in
          let x = (h r.1.0).0 in
          let y = (g r.1.1.0).0 in (
            conditional_meant e.parts a t c x y,
            subst (λ (o : Option (List Raw)). IfChain s o (IsForm (value_of s (node production.IfExpr us))))
                (sym (is_chain_node us)) (chain_more e.parts a t c x y),
          )

  -- the last part of one goes on with the chain that it is
  node_is : (v : Raw) (p : Production) (vs : List Raw) → out-Raw v ≡ Node p vs → node p vs ≡ v
  node_is v p vs e = sym (rolls-Node p vs) ∙ ap roll-Raw (sym e) ∙ roll-out-Raw v

  conditional_is : (p : Production) → is_conditional p ≡ true → p ≡ production.IfExpr
  conditional_is production.IfExpr e = refl
  conditional_is _ e = absurd cc

  parens_is : (p : Production) → is_parens p ≡ true → p ≡ production.Parens
  parens_is production.Parens e = refl
  parens_is _ e = absurd cc

  same_some : {A : Type 0} {x y : A} → Some x ≡ Some y → x ≡ y
  same_some e = cc

  chain_back : (v : Raw) (us : List Raw) (f : Raw-F Raw) → out-Raw v ≡ f → as_chain f ≡ Some us
      → EachKept s us → Kept s v
  chain_back v us (Leaf t) o e k = absurd cc
  chain_back v us (Node p vs) o e k = go (is_conditional p) refl e
    where
      go : (b : Bool) → is_conditional p ≡ b → cond b (Some vs) None ≡ Some us → Kept s v
      go true i h =
          let same : vs ≡ us = same_some h in
          subst (Kept s) (node_is v p vs o)
          (subst (λ q. Kept s (node q vs)) (sym (conditional_is p i))
          (each_chain s vs (subst (EachKept s) (sym same) k)))
      go false i h = absurd cc

  inner_back : (v : Raw) (us : List Raw) (f : Raw-F Raw) → out-Raw v ≡ f
      → as_inner_chain f ≡ Some us → EachKept s us → Kept s v
  inner_back v us (Leaf t) o e k = absurd cc
  inner_back v us (Node p vs) o e k = go (is_conditional p) (is_parens p) refl refl e
    where
      only : (ws : List Raw) → only_chain ws ≡ Some us
          → Kept s (node production.Parens ws)
      only [] h = absurd cc
      only (w ∷ []) h = parens_kept s w (chain_back w us (out-Raw w) refl h k)
      only (w ∷ x ∷ ws) h = absurd cc

      go : (b c : Bool) → is_conditional p ≡ b → is_parens p ≡ c
          → cond b (Some vs) (cond c (only_chain vs) None) ≡ Some us → Kept s v
      go true c i j h = chain_back v us (Node p vs) o (rw i h) k
      go false true i j h =
          subst (Kept s) (node_is v p vs o)
          (subst (λ q. Kept s (node q vs)) (sym (parens_is p j)) (only vs h))
      go false false i j h = absurd cc

  pub else_good : (v : Raw) → Good s nonterminal.ExprSingle v → IsElse s (in_else v)
  else_good v g = go (as_inner_chain (out-Raw v)) refl
    where
      go : (o : Option (List Raw)) → as_inner_chain (out-Raw v) ≡ o → IsElse s (chain_or o v)
      go None e = record {
        parts = v ∷ [];
        is = outs-Node production.ElseExpr (v ∷ []);
        good = λ k. (
          subst (λ (o : Option (List Raw)). IfChain s o (IsForm (value_of s v))) e (g k.0).1,
          tt,
        );
      }
      go (Some us) e = record {
        parts = us;
        is = outs-Node production.ElseExpr us;
        good = λ k.
            subst (λ (o : Option (List Raw)). IfChain s o (IsForm (value_of s v))) e
            (g (inner_back v us (out-Raw v) refl e k)).1;
      }

  -- parentheses
  chain_same : (f : Raw-F Raw) → as_parens f ≡ false → as_chain f ≡ as_inner_chain f
  chain_same (Leaf t) e = refl
  chain_same (Node p vs) e = rw e refl

  module _ (u : SoundPrefixes s.prefixes) where
    around : (v : Raw) → Good s nonterminal.Expr v → as_parens (out-Raw v) ≡ false
        → Kept s (node production.Parens (v ∷ []))
        → Claim s nonterminal.PrimaryExpr (node production.Parens (v ∷ []))
    unfolding is_chain
    around v g e k =
        let w = node production.Parens (v ∷ []) in
        let x = g (kept_parts s production.Parens (v ∷ []) refl k).0 in
        let same : value_of s w ≡ value_of s v =
        value_node s production.Parens (v ∷ []) refl ∙ parens_same s u (value_of s v) x.0 in
        let chain : as_inner_chain (out-Raw w) ≡ as_inner_chain (out-Raw v) =
        ap as_inner_chain (outs-Node production.Parens (v ∷ [])) ∙ chain_same (out-Raw v) e in (
          subst IsExpr (sym same) x.0,
          subst (λ (o : Option (List Raw)). IfChain s o (IsForm (value_of s w))) (sym chain)
              (subst (λ (m : Meant). IfChain s (as_inner_chain (out-Raw v)) (IsForm m)) (sym same) x.1),
        )

    pub parens_good : (v : Raw) → Good s nonterminal.Expr v
        → Good s nonterminal.PrimaryExpr (in_parens v)
    parens_good v g = go (as_parens (out-Raw v)) refl
      where
        go : (b : Bool) → as_parens (out-Raw v) ≡ b
            → Kept s (cond b v (node production.Parens (v ∷ [])))
            → Claim s nonterminal.PrimaryExpr (cond b v (node production.Parens (v ∷ [])))
        go true e k = g k
        go false e k = around v g e k

    pub empty_good : Good s nonterminal.PrimaryExpr (node production.Parens [])
    unfolding is_chain
    empty_good k =
        let w = node production.Parens [] in
        let x : IsForm (value_of s w) =
        subst IsForm (sym (value_node s production.Parens [] refl)) (empty_made s u) in
        let e : as_inner_chain (out-Raw w) ≡ None =
        ap as_inner_chain (outs-Node production.Parens []) in (
          form_expr (value_of s w) x,
          subst (λ (o : Option (List Raw)). IfChain s o (IsForm (value_of s w))) (sym e) x,
        )
