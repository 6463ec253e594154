-- What conditionals and parentheses make of their parts.
use Rattle.std.proofs.Common.{◌≡◌, ℕ, ◌+◌, ◌≤◌, max, List, [], ◌∷◌, ◌++◌, map, reverse, Bool, true}
use Rattle.std.proofs.Common.{false, cond, Option, Some, None, refl, sym, ap, subst, ◌∙◌, arith}
use Rattle.std.proofs.lemmas.List.{reverse-append, append_assoc}
use Rattle.xt_syntax.specs.declared.exprs.Expr.{Expr}
use Rattle.xt_syntax.specs.declared.exprs.Expr.TheVariants as expr
use Rattle.expr_terms.specs.Nest.{Levels, plain, levels_of, mark_of, before_parts, with_parts}
use Rattle.expr_terms.specs.Nest.{whole_nest}
use Rattle.expr_terms.specs.Raws.{in_parens, in_else, in_chain, as_parens, as_chain, as_inner_chain}
use Rattle.expr_terms.specs.Raws.{as_else, chain_or}
use Rattle.expr_keys.specs.declared.productions.Production.{Production}
use Rattle.expr_keys.specs.declared.productions.Production.TheVariants as production
use Rattle.expr_keys.specs.declared.tokens.Token.TheVariants as token
use Rattle.expr_terms.specs.declared.raws.Raw.{Raw}
use Rattle.expr_terms.specs.declared.raws.Raw.TheVariants.{Leaf as leaf, Node as node, outs-Node}
use Rattle.expr_terms.specs.declared.raws.Raw.TheViews.{out-Raw}
use Rattle.expr_terms.specs.declared.raws.Raw.TheOpen.{Raw-F, Leaf, Node}
use Rattle.expr_grammar.proofs.ExprNest.Levels.{levels-node}
use Rattle.expr_rules.specs.declared.expr_meant.meant.Meant.{Meant}
use Rattle.expr_rules.specs.declared.expr_meant.meant.Meant.TheVariants as meant
use Rattle.expr_rules.specs.ExprMeant.Parts.{expr_of}
use Rattle.expr_control.specs.Lists.{arms_of, other_of}
use Rattle.expr_control.specs.Table.{control_value}
use Rattle.expr_resolve.specs.declared.setting.Setting.{Setting}
use Rattle.expr_resolve.specs.Tables.{act, family_of, value_in, is_chain}
use Rattle.expr_resolve.specs.Folds.{value_of}
use Rattle.xpath_laws.proofs.XpathForms.Found.{value_node, value_chain}
use Rattle.xpath_laws.proofs.XpathForms.Swapped.{IsLiteral}
use Rattle.xpath_laws.proofs.XpathForms.Fits.{Property, Fit, fit_more, AllArms, fit_if}
use Rattle.xpath_laws.proofs.XpathForms.Parts.{Told, told, levels_in, values_in, made, IsExpr, expr_is}
use Rattle.xpath_laws.proofs.XpathForms.Joined.{most, most_grows}
use Rattle.xpath_laws.proofs.XpathForms.Made.{parens_same}

abbrev pub told_of : Setting → Raw → Told
told_of s v = record { levels = levels_of v; value = value_of s v }

module _ (asked : Property) where
  data At (n : ℕ) : Meant → Type 0 where
    at : {e : Expr} → Fit asked n e → At n (meant.Expr e)

  -- what the parts of a chain give in reading order
  record Ends (n : ℕ) (ms : List Meant) : Type 0 where
    arms : AllArms asked n (arms_of ms)
    other : Fit asked n (other_of ms)

  last_ends : (n : ℕ) (m : Meant) → At n m → Ends n (m ∷ [])
  unfolding expr_of
  last_ends n _ (at f) = record { arms = tt; other = f }

  more_ends : (n : ℕ) (t a : Meant) (ms : List Meant) → At n t → At n a → Ends n ms
      → Ends n (t ∷ a ∷ ms)
  unfolding expr_of
  more_ends n _ _ ms (at f) (at g) e = record { arms = ((f, g), e.arms); other = e.other }

  module _ (s : Setting) where
    -- the parts of a chain of `if`s, the last one first
    abbrev AreArms : (Raw → Type 0) → List Raw → Type 0
    AreArms A [] = Unit {0}
    AreArms A (a ∷ []) = ⊥
    AreArms A (a ∷ t ∷ vs) = A a × A t × AreArms A vs

    abbrev IsChainOf : (Raw → Type 0) → List Raw → Type 0
    IsChainOf A [] = ⊥
    IsChainOf A (v ∷ vs) = A v × AreArms A vs

    abbrev pub IsPart : Raw → Type 0
    IsPart v = IsExpr asked (told_of s v)

    abbrev PartAt : ℕ → Raw → Type 0
    PartAt n v = At n (value_of s v)

    abbrev pub IsChain : List Raw → Type 0
    IsChain vs = IsChainOf IsPart vs

    abbrev pub IfChain : Option (List Raw) → Type 0
    IfChain None = Unit {0}
    IfChain (Some vs) = IsChain vs

    pub record GoodExpr (v : Raw) : Type 0 where
      pub made : IsPart v
      pub inner : IfChain (as_inner_chain (out-Raw v))
      pub literal : (l : IsLiteral v) → expr_of (value_of s v) ≡ expr.Str l.text

    -- the last part of an `if`
    pub record IsElse (v : Raw) : Type 0 where
      pub parts : List Raw
      pub is : out-Raw v ≡ Node production.ElseExpr parts
      pub chain : IsChain parts

    -- as deep as the whole
    part_at : (n : ℕ) (x : Told) → x.levels.nest ≤ n → IsExpr asked x → At n x.value
    part_at n _ h (expr_is {n = m} {e = e} f) = at (fit_more asked m n e h f)

    part_most : (a : ℕ) (x : Told) (vs : List Levels) → IsExpr asked x
        → with_parts production.IfExpr a (x.levels ∷ vs)
        ≡ with_parts production.IfExpr (max a x.levels.nest) vs
    part_most a _ vs (expr_is f) = refl

    arms_most : (a : ℕ) (vs : List Raw) → AreArms IsPart vs
        → with_parts production.IfExpr a (map levels_of vs) ≡ most a (map levels_of vs)
    arms_most a [] h = refl
    arms_most a (v ∷ []) h = absurd h
    arms_most a (v ∷ t ∷ vs) h =
        let n = max a (levels_of v).nest in
        let m = max n (levels_of t).nest in
        part_most a (told_of s v) (levels_of t ∷ map levels_of vs) h.0
        ∙ part_most n (told_of s t) (map levels_of vs) h.1 ∙ arms_most m vs h.2

    chain_most : (vs : List Raw) → IsChain vs
        → with_parts production.IfExpr 0 (map levels_of vs) ≡ most 0 (map levels_of vs)
    chain_most [] h = absurd h
    chain_most (v ∷ vs) h =
        part_most 0 (told_of s v) (map levels_of vs) h.0
        ∙ arms_most (max 0 (levels_of v).nest) vs h.1

    arms_at : (a n : ℕ) (vs : List Raw) → most a (map levels_of vs) ≤ n → AreArms IsPart vs
        → AreArms (PartAt n) vs
    arms_at a n [] h g = tt
    arms_at a n (v ∷ []) h g = absurd g
    arms_at a n (v ∷ t ∷ vs) h g =
        let b = max a (levels_of v).nest in
        let c = max b (levels_of t).nest in
        let up = most_grows c (map levels_of vs) in (
          part_at n (told_of s v) (omega (arith, h, up)) g.0,
          part_at n (told_of s t) (omega (arith, h, up)) g.1,
          arms_at c n vs h g.2,
        )

    chain_at : (n : ℕ) (vs : List Raw) → most 0 (map levels_of vs) ≤ n → IsChain vs
        → IsChainOf (PartAt n) vs
    chain_at n [] h g = absurd g
    chain_at n (v ∷ vs) h g =
        let a = max 0 (levels_of v).nest in
        let up = most_grows a (map levels_of vs) in
        (part_at n (told_of s v) (omega (arith, h, up)) g.0, arms_at a n vs h g.1)

    abbrev back : List Raw → List Meant
    back vs = reverse (map (value_of s) vs)

    back_two : (a t : Raw) (vs : List Raw) (ms : List Meant)
        → back (a ∷ t ∷ vs) ++ ms ≡ back vs ++ (value_of s t ∷ value_of s a ∷ ms)
    back_two a t vs ms =
        ap (λ xs. xs ++ ms)
        (reverse-append (value_of s a ∷ value_of s t ∷ []) (map (value_of s) vs))
        ∙ append_assoc (back vs) (value_of s t ∷ value_of s a ∷ []) ms

    arms_end : (n : ℕ) (vs : List Raw) (ms : List Meant) → AreArms (PartAt n) vs → Ends n ms
        → Ends n (back vs ++ ms)
    arms_end n [] ms a e = e
    arms_end n (v ∷ []) ms a e = absurd a
    arms_end n (a ∷ t ∷ vs) ms h e =
        subst (Ends n) (sym (back_two a t vs ms))
        (arms_end n vs (value_of s t ∷ value_of s a ∷ ms) h.2
        (more_ends n (value_of s t) (value_of s a) ms h.1 h.0 e))

    chain_ends : (n : ℕ) (vs : List Raw) → IsChainOf (PartAt n) vs → Ends n (back vs)
    chain_ends n [] c = absurd c
    chain_ends n (v ∷ vs) c =
        subst (Ends n) (sym (reverse-append (value_of s v ∷ []) (map (value_of s) vs)))
        (arms_end n vs (value_of s v ∷ []) c.1 (last_ends n (value_of s v) c.0))

    arms_more : (vs : List Raw) (a t : Raw) → AreArms IsPart vs → IsPart a → IsPart t
        → AreArms IsPart (vs ++ a ∷ t ∷ [])
    arms_more [] a t h x y = (x, y, tt)
    arms_more (w ∷ []) a t h x y = absurd h
    arms_more (w ∷ z ∷ ws) a t h x y = (h.0, h.1, arms_more ws a t h.2 x y)

    chain_more : (vs : List Raw) (a t : Raw) → IsChain vs → IsPart a → IsPart t
        → IsChain (vs ++ a ∷ t ∷ [])
    chain_more [] a t c x y = absurd c
    chain_more (v ∷ vs) a t c x y = (c.0, arms_more vs a t c.1 x y)

    conditional_part : (vs : List Raw) → IsChain vs → IsPart (node production.IfExpr vs)
    unfolding family_of value_in control_value
    conditional_part vs c =
        let n = with_parts production.IfExpr 0 (map levels_of vs) in
        let same = chain_most vs c in
        let ends = chain_ends n vs (chain_at n vs (omega (arith, same)) c) in
        subst (λ l. IsExpr asked (record { levels = l; value = value_of s (node production.IfExpr vs) }))
        (sym (levels-node production.IfExpr vs))
        (subst (λ m. IsExpr asked (told (1 + n) plain m)) (sym (value_chain s vs))
        (expr_is (fit_if asked n (arms_of (back vs)) (other_of (back vs)) ends.arms ends.other)))

    -- a node of another production is no literal
    pub no_text : (v : Raw) (q : Production) (vs : List Raw) → out-Raw v ≡ Node q vs
        → (q ≡ production.Literal → ⊥) → (l : IsLiteral v)
        → expr_of (value_of s v) ≡ expr.Str l.text
    no_text v q vs o differs l =
        let same : Node q vs ≡ Node production.Literal (leaf (token.Quoted l.text) ∷ l.others) =
        sym o ∙ l.is in
        let form : q ≡ production.Literal = cc in absurd (differs form)

    -- `if (t) then a else ..`
    pub chain_good : (t a l : Raw) → GoodExpr t → GoodExpr a → IsElse l
        → GoodExpr (in_chain t a l)
    chain_good t a l g h e =
        let same = ap (λ f. node production.IfExpr (as_else l f ++ a ∷ t ∷ [])) (sym e.is) in
        subst GoodExpr same
        (go (e.parts ++ a ∷ t ∷ []) (chain_more e.parts a t e.chain h.made g.made))
      where
        go : (us : List Raw) → IsChain us → GoodExpr (node production.IfExpr us)
        go us c = record {
          made = conditional_part us c;
          inner = subst IfChain (sym (ap as_inner_chain (outs-Node production.IfExpr us))) c;
          literal = no_text (node production.IfExpr us) production.IfExpr us
              (outs-Node production.IfExpr us) (λ e. cc);
        }

    pub else_good : (v : Raw) → GoodExpr v → IsElse (in_else v)
    else_good v g = go (as_inner_chain (out-Raw v)) refl
      where
        go : (o : Option (List Raw)) → as_inner_chain (out-Raw v) ≡ o → IsElse (chain_or o v)
        go None e = record {
          parts = v ∷ [];
          is = outs-Node production.ElseExpr (v ∷ []);
          chain = (g.made, tt);
        }
        go (Some us) e = record {
          parts = us;
          is = outs-Node production.ElseExpr us;
          chain = subst IfChain e g.inner;
        }

    -- what is told of a node
    pub levels_are : (vs : List Raw) → levels_in (map (told_of s) vs) ≡ map levels_of vs
    levels_are [] = refl
    levels_are (v ∷ vs) = ap (λ ls. levels_of v ∷ ls) (levels_are vs)

    pub values_are : (vs : List Raw) → values_in (map (told_of s) vs) ≡ map (value_of s) vs
    values_are [] = refl
    values_are (v ∷ vs) = ap (λ ms. value_of s v ∷ ms) (values_are vs)

    abbrev at_node : Production → List Levels → List Meant → Told
    at_node q ls ms = record {
      levels = record { nest = whole_nest q (with_parts q (before_parts q) ls); mark = mark_of q };
      value = act s q ms;
    }

    pub told_node : (q : Production) (vs : List Raw) → is_chain q ≡ false
        → told_of s (node q vs) ≡ made s q (map (told_of s) vs)
    told_node q vs c =
        ap (λ l. record { levels = l; value = value_of s (node q vs) }) (levels-node q vs)
        ∙ ap (λ m. record {
          levels = record {
            nest = whole_nest q (with_parts q (before_parts q) (map levels_of vs));
            mark = mark_of q;
          };
          value = m;
        }) (value_node s q vs c)
        ∙ ap (λ ls. at_node q ls (map (value_of s) vs)) (sym (levels_are vs))
        ∙ ap (λ ms. at_node q (levels_in (map (told_of s) vs)) ms) (sym (values_are vs))

    -- parentheses
    chain_same : (f : Raw-F Raw) → as_parens f ≡ false → as_chain f ≡ as_inner_chain f
    chain_same (Leaf t) e = refl
    chain_same (Node p vs) e = rw e refl

    around : (v : Raw) → GoodExpr v → as_parens (out-Raw v) ≡ false
        → GoodExpr (node production.Parens (v ∷ []))
    unfolding is_chain
    around v g e =
        let w = node production.Parens (v ∷ []) in
        let same : told_of s w ≡ told_of s v =
        told_node production.Parens (v ∷ []) refl ∙ parens_same asked s (told_of s v) g.made in
        let chain : as_inner_chain (out-Raw w) ≡ as_inner_chain (out-Raw v) =
        ap as_inner_chain (outs-Node production.Parens (v ∷ [])) ∙ chain_same (out-Raw v) e in
        record {
          made = subst (IsExpr asked) (sym same) g.made;
          inner = subst IfChain (sym chain) g.inner;
          literal = no_text w production.Parens (v ∷ [])
              (outs-Node production.Parens (v ∷ [])) (λ e. cc);
        }

    pub parens_good : (v : Raw) → GoodExpr v → GoodExpr (in_parens v)
    parens_good v g = go (as_parens (out-Raw v)) refl
      where
        go : (b : Bool) → as_parens (out-Raw v) ≡ b
            → GoodExpr (cond b v (node production.Parens (v ∷ [])))
        go true e = g
        go false e = around v g e
