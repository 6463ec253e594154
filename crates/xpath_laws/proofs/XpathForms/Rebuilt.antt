-- What a production is built to, once its parts are swapped.
use Rattle.std.proofs.Common.{◌≡◌, ℕ, List, [], ◌∷◌, ◌++◌, Bool, true, false, cond, ◌⊎◌, inl, inr}
use Rattle.std.proofs.Common.{Option, Some, None, refl, sym, ap, subst, ◌∙◌}
use Rattle.std.proofs.lemmas.Option.{same_Some, none-some}
use Rattle.xt_names.specs.Classes.{is_xml_text}
use Rattle.expr_terms.specs.Productions.{passes}
use Rattle.expr_terms.specs.Raws.{build, build_plain, build_parens, build_else, build_chain}
use Rattle.expr_terms.specs.Raws.{is_parens, is_conditional, is_otherwise, as_parens, as_last}
use Rattle.expr_terms.specs.Raws.{as_chain, only_chain, as_inner_chain, chain_or, as_else}
use Rattle.expr_keys.specs.declared.productions.Production.{Production}
use Rattle.expr_keys.specs.declared.productions.Production.TheVariants as production
use Rattle.expr_keys.specs.declared.tokens.Token.TheVariants as token
use Rattle.expr_terms.specs.declared.raws.Raw.{Raw}
use Rattle.expr_terms.specs.declared.raws.Raw.TheVariants.{Leaf as leaf, Node as node}
use Rattle.expr_terms.specs.declared.raws.Raw.TheVariants.{outs-Node}
use Rattle.expr_terms.specs.declared.raws.Raw.TheViews.{out-Raw}
use Rattle.expr_terms.specs.declared.raws.Raw.TheOpen.{Raw-F, Leaf, Node}
use Rattle.xpath_laws.proofs.XpathForms.Swapped.{IfCall, Swapped, AllSwapped, leaf_same}
use Rattle.xpath_laws.proofs.XpathForms.Swapped.{literal_other, node_same, nothing, both, node_is}

pass_fits : (q : Production) (A : Type 0) → passes q ≡ true → IfCall q A
pass_fits production.Call A e = absurd cc
pass_fits _ A e = tt

conditional_fits : (q : Production) (A : Type 0) → is_conditional q ≡ true → IfCall q A
conditional_fits production.IfExpr A e = tt
conditional_fits _ A e = absurd cc

parens_fits : (q : Production) (A : Type 0) → is_parens q ≡ true → IfCall q A
parens_fits production.Parens A e = tt
parens_fits _ A e = absurd cc

otherwise_fits : (q : Production) (A : Type 0) → is_otherwise q ≡ true → IfCall q A
otherwise_fits production.ElseExpr A e = tt
otherwise_fits _ A e = absurd cc

module _ (A : List Raw → Type 0) where
  abbrev Swap : Raw → Raw → Type 0
  Swap v w = Swapped A v w

  abbrev Swaps : List Raw → List Raw → Type 0
  Swaps vs ws = AllSwapped A vs ws

  record AsNode (q : Production) (vs : List Raw) (w : Raw) : Type 0 where
    parts : List Raw
    fits : IfCall q (A parts)
    swapped : Swaps vs parts
    is : w ≡ node q parts

  -- a literal with another text
  pub record AsLiteral (q : Production) (vs : List Raw) (w : Raw) : Type 0 where
    pub form : q ≡ production.Literal
    pub old : List ℕ
    pub others : List Raw
    pub new : List ℕ
    pub parts : vs ≡ leaf (token.Quoted old) ∷ others
    pub text : is_xml_text new ≡ true
    pub is : w ≡ node production.Literal (leaf (token.Quoted new) ∷ [])

  pub record Rebuilt (q : Production) (vs : List Raw) (w : Raw) : Type 0 where
    pub parts : List Raw
    pub fits : IfCall q (A parts)
    pub swapped : Swaps vs parts
    pub is : w ≡ build q parts

  at_node : (q : Production) (vs : List Raw) (v w : Raw) → out-Raw v ≡ Node q vs → Swap v w
      → AsNode q vs w ⊎ AsLiteral q vs w
  at_node q vs v w o (leaf_same t a b) = let no : Leaf t ≡ Node q vs = sym a ∙ o in absurd cc
  at_node q vs v w o (literal_other t u us a b c) =
      let same : Node production.Literal (leaf (token.Quoted t) ∷ us) ≡ Node q vs = sym a ∙ o in
      inr (record {
        form = cc;
        old = t;
        others = us;
        new = u;
        parts = cc;
        text = c;
        is = node_is w production.Literal (leaf (token.Quoted u) ∷ []) b;
      })
  at_node q vs v w o (node_same r us ws a b c d) =
      let same : Node r us ≡ Node q vs = sym a ∙ o in
      let form : r ≡ q = cc in
      let parts : us ≡ vs = cc in
      inl (record {
        parts = ws;
        fits = subst (λ x. IfCall x (A ws)) form c;
        swapped = subst (λ x. Swaps x ws) parts d;
        is = node_is w r ws b ∙ ap (λ x. node x ws) form;
      })

  just_node : (q : Production) (vs : List Raw) (w : Raw) → (q ≡ production.Literal → ⊥)
      → Swap (node q vs) w → AsNode q vs w
  just_node q vs w differs s = go (at_node q vs (node q vs) w (outs-Node q vs) s)
    where
      go : AsNode q vs w ⊎ AsLiteral q vs w → AsNode q vs w
      go (inl n) = n
      go (inr l) = absurd (differs l.form)

  -- a form that stays a node
  none_built : (q : Production) (w : Raw) → build q [] ≡ node q [] → AsNode q [] w
      → Rebuilt q [] w
  none_built q w b n = go n.parts n.swapped n.fits n.is
    where
      go : (ws : List Raw) → Swaps [] ws → IfCall q (A ws) → w ≡ node q ws
          → Rebuilt q [] w
      go _ nothing f i = record { parts = []; fits = f; swapped = nothing; is = i ∙ sym b }

  one_built : (q : Production) (v w : Raw)
      → ((x : Raw) → Swap v x → build q (x ∷ []) ≡ node q (x ∷ [])) → AsNode q (v ∷ []) w
      → Rebuilt q (v ∷ []) w
  one_built q v w b n = go n.parts n.swapped n.fits n.is
    where
      go : (ws : List Raw) → Swaps (v ∷ []) ws → IfCall q (A ws) → w ≡ node q ws
          → Rebuilt q (v ∷ []) w
      go _ (both {w = x} s nothing) f i = record {
        parts = x ∷ [];
        fits = f;
        swapped = both s nothing;
        is = i ∙ sym (b x s);
      }

  many_built : (q : Production) (v u w : Raw) (vs : List Raw)
      → ((x y : Raw) (xs : List Raw) → Swaps vs xs
      → build q (x ∷ y ∷ xs) ≡ node q (x ∷ y ∷ xs))
      → AsNode q (v ∷ u ∷ vs) w → Rebuilt q (v ∷ u ∷ vs) w
  many_built q v u w vs b n = go n.parts n.swapped n.fits n.is
    where
      go : (ws : List Raw) → Swaps (v ∷ u ∷ vs) ws → IfCall q (A ws)
          → w ≡ node q ws → Rebuilt q (v ∷ u ∷ vs) w
      go _ (both {w = x} s (both {w = y} {ws = xs} t more)) f i = record {
        parts = x ∷ y ∷ xs;
        fits = f;
        swapped = both s (both t more);
        is = i ∙ sym (b x y xs more);
      }

  abbrev Either : Production → List Raw → Raw → Type 0
  Either q vs w = Rebuilt q vs w ⊎ AsLiteral q vs w

  plain_one : (q : Production) (v w : Raw) → ((us : List Raw) → build q us ≡ build_plain q us)
      → Swap (build_plain q (v ∷ [])) w → Either q (v ∷ []) w
  plain_one q v w b = go (passes q) refl
    where
      go : (c : Bool) → passes q ≡ c → Swap (cond c v (node q (v ∷ []))) w → Either q (v ∷ []) w
      go true e s = inl (record {
        parts = w ∷ [];
        fits = pass_fits q (A (w ∷ [])) e;
        swapped = both s nothing;
        is = sym (b (w ∷ []) ∙ ap (λ (c : Bool). cond c w (node q (w ∷ []))) e);
      })
      go false e s = elim (at_node q (v ∷ []) (node q (v ∷ [])) w (outs-Node q (v ∷ [])) s) [
        | inl n ↦ inl (one_built q v w
            (λ x t. b (x ∷ []) ∙ ap (λ (c : Bool). cond c x (node q (x ∷ []))) e) n)
        | inr l ↦ inr l
      ]

  plain : (q : Production) (vs : List Raw) (w : Raw)
      → ((us : List Raw) → build q us ≡ build_plain q us) → Swap (build_plain q vs) w
      → Either q vs w
  plain q [] w b s = elim (at_node q [] (node q []) w (outs-Node q []) s) [
    | inl n ↦ inl (none_built q w (b []) n)
    | inr l ↦ inr l
  ]
  plain q (v ∷ []) w b s = plain_one q v w b s
  plain q (v ∷ u ∷ vs) w b s =
      elim (at_node q (v ∷ u ∷ vs) (node q (v ∷ u ∷ vs)) w (outs-Node q (v ∷ u ∷ vs)) s) [
        | inl n ↦ inl (many_built q v u w vs (λ x y xs t. b (x ∷ y ∷ xs)) n)
        | inr l ↦ inr l
      ]

  -- parentheses
  same_parens : (v w : Raw) → Swap v w → as_parens (out-Raw w) ≡ as_parens (out-Raw v)
  same_parens v w (leaf_same t a b) = rw (a, b) refl
  same_parens v w (literal_other t u us a b c) = rw (a, b) refl
  same_parens v w (node_same q vs ws a b c d) = rw (a, b) refl

  parens_one : (v w : Raw) (b : Bool) → as_parens (out-Raw v) ≡ b
      → Swap (cond b v (node production.Parens (v ∷ []))) w
      → Rebuilt production.Parens (v ∷ []) w
  parens_one v w true e s = record {
    parts = w ∷ [];
    fits = tt;
    swapped = both s nothing;
    is = sym (ap (λ (c : Bool). cond c w (node production.Parens (w ∷ []))) (same_parens v w s ∙ e));
  }
  parens_one v w false e s =
      one_built production.Parens v w
      (λ x t. ap (λ (c : Bool). cond c x (node production.Parens (x ∷ []))) (same_parens v x t ∙ e))
      (just_node production.Parens (v ∷ []) w (λ e. cc) s)

  parens : (vs : List Raw) (w : Raw) → Swap (build_parens vs) w → Rebuilt production.Parens vs w
  parens [] w s =
      none_built production.Parens w refl (just_node production.Parens [] w (λ e. cc) s)
  parens (v ∷ []) w s = parens_one v w (as_parens (out-Raw v)) refl s
  parens (v ∷ u ∷ vs) w s =
      many_built production.Parens v u w vs (λ x y xs t. refl)
      (just_node production.Parens (v ∷ u ∷ vs) w (λ e. cc) s)

  -- a chain of `if`s, in parentheses or not
  record Chained (v : Raw) (xs : List Raw) (of : Raw-F Raw → Option (List Raw)) : Type 0 where
    other : Raw
    swapped : Swap v other
    is : of (out-Raw other) ≡ Some xs

  conditional_part : (q : Production) (vs us : List Raw) → as_chain (Node q vs) ≡ Some us
      → (is_conditional q ≡ true) × (vs ≡ us)
  conditional_part q vs us = go (is_conditional q) refl
    where
      go : (b : Bool) → is_conditional q ≡ b → cond b (Some vs) None ≡ Some us
          → (is_conditional q ≡ true) × (vs ≡ us)
      go true e h = (e, same_Some _ _ h)
      go false e h = absurd (none-some _ h)

  other_conditional : (v : Raw) (us xs : List Raw) (f : Raw-F Raw) → out-Raw v ≡ f
      → as_chain f ≡ Some us → Swaps us xs → Chained v xs as_chain
  other_conditional v us xs (Leaf t) o e s = absurd (none-some _ e)
  other_conditional v us xs (Node q vs) o e s =
      let c = conditional_part q vs us e in
      record {
        other = node q xs;
        swapped = node_same q vs xs o (outs-Node q xs)
            (conditional_fits q (A xs) c.0) (subst (λ z. Swaps z xs) (sym c.1) s);
        is = ap as_chain (outs-Node q xs) ∙ ap (λ (b : Bool). cond b (Some xs) None) c.0;
      }

  other_chain : (v : Raw) (us xs : List Raw) (f : Raw-F Raw) → out-Raw v ≡ f
      → as_inner_chain f ≡ Some us → Swaps us xs → Chained v xs as_inner_chain
  other_chain v us xs (Leaf t) o e s = absurd (none-some _ e)
  other_chain v us xs (Node q vs) o e s = go (is_conditional q) (is_parens q) refl refl e
    where
      only : (ws : List Raw) → out-Raw v ≡ Node q ws → is_conditional q ≡ false
          → is_parens q ≡ true → only_chain ws ≡ Some us → Chained v xs as_inner_chain
      only [] o i j h = absurd (none-some _ h)
      only (y ∷ []) o i j h =
          let c = other_conditional y us xs (out-Raw y) refl h s in
          let w = node q (c.other ∷ []) in
          let is : as_inner_chain (Node q (c.other ∷ [])) ≡ Some xs = rw (i, j) c.is in
          record {
            other = w;
            swapped = node_same q (y ∷ []) (c.other ∷ []) o (outs-Node q (c.other ∷ []))
                (parens_fits q (A (c.other ∷ [])) j) (both c.swapped nothing);
            is = ap as_inner_chain (outs-Node q (c.other ∷ [])) ∙ is;
          }
      only (y ∷ z ∷ ws) o i j h = absurd (none-some _ h)

      go : (b c : Bool) → is_conditional q ≡ b → is_parens q ≡ c
          → cond b (Some vs) (cond c (only_chain vs) None) ≡ Some us
          → Chained v xs as_inner_chain
      go true c i j h =
          let same : vs ≡ us = same_Some _ _ h in
          let is : as_inner_chain (Node q xs) ≡ Some xs = rw i refl in
          record {
            other = node q xs;
            swapped = node_same q vs xs o (outs-Node q xs)
                (conditional_fits q (A xs) i) (subst (λ z. Swaps z xs) (sym same) s);
            is = ap as_inner_chain (outs-Node q xs) ∙ is;
          }
      go false true i j h = only vs o i j h
      go false false i j h = absurd (none-some _ h)

  no_conditional : (v w : Raw) → Swap v w → as_chain (out-Raw v) ≡ None
      → as_chain (out-Raw w) ≡ None
  no_conditional v w (leaf_same t a b) e = ap as_chain b
  no_conditional v w (literal_other t u us a b c) e = ap as_chain b
  no_conditional v w (node_same q vs ws a b c d) e =
      go (is_conditional q) refl (sym (ap as_chain a) ∙ e)
    where
      go : (b : Bool) → is_conditional q ≡ b → cond b (Some vs) None ≡ None
          → as_chain (out-Raw w) ≡ None
      go true i h = absurd (none-some _ (sym h))
      go false i h = ap as_chain b ∙ ap (λ (b : Bool). cond b (Some ws) None) i

  no_only : (vs ws : List Raw) → Swaps vs ws → only_chain vs ≡ None → only_chain ws ≡ None
  no_only _ _ nothing e = refl
  no_only _ _ (both {v = v} {w = w} s nothing) e = no_conditional v w s e
  no_only _ _ (both s (both t more)) e = refl

  no_chain : (v w : Raw) → Swap v w → as_inner_chain (out-Raw v) ≡ None
      → as_inner_chain (out-Raw w) ≡ None
  no_chain v w (leaf_same t a b) e = ap as_inner_chain b
  no_chain v w (literal_other t u us a b c) e = ap as_inner_chain b
  no_chain v w (node_same q vs ws a b c d) e =
      ap as_inner_chain b ∙ go (is_conditional q) (is_parens q) (sym (ap as_inner_chain a) ∙ e)
    where
      go : (b c : Bool) → cond b (Some vs) (cond c (only_chain vs) None) ≡ None
          → cond b (Some ws) (cond c (only_chain ws) None) ≡ None
      go true c h = absurd (none-some _ (sym h))
      go false true h = no_only vs ws d h
      go false false h = refl

  -- the last part of one
  else_one : (v w : Raw) (o : Option (List Raw)) → as_inner_chain (out-Raw v) ≡ o
      → Swap (chain_or o v) w → Rebuilt production.ElseExpr (v ∷ []) w
  else_one v w None e s =
      one_built production.ElseExpr v w (λ x t. ap (λ o. chain_or o x) (no_chain v x t e))
      (just_node production.ElseExpr (v ∷ []) w (λ e. cc) s)
  else_one v w (Some us) e s =
      let n = just_node production.ElseExpr us w (λ e. cc) s in
      let c = other_chain v us n.parts (out-Raw v) refl e n.swapped in
      record {
        parts = c.other ∷ [];
        fits = tt;
        swapped = both c.swapped nothing;
        is = n.is ∙ sym (ap (λ o. chain_or o c.other) c.is);
      }

  otherwise : (vs : List Raw) (w : Raw) → Swap (build_else vs) w
      → Rebuilt production.ElseExpr vs w
  otherwise [] w s =
      none_built production.ElseExpr w refl (just_node production.ElseExpr [] w (λ e. cc) s)
  otherwise (v ∷ []) w s = else_one v w (as_inner_chain (out-Raw v)) refl s
  otherwise (v ∷ u ∷ vs) w s =
      many_built production.ElseExpr v u w vs (λ x y xs t. refl)
      (just_node production.ElseExpr (v ∷ u ∷ vs) w (λ e. cc) s)

  -- an arm more
  record Parted (us vs xs : List Raw) : Type 0 where
    front : List Raw
    back : List Raw
    of_front : Swaps us front
    of_back : Swaps vs back
    is : xs ≡ front ++ back

  parted : (us vs xs : List Raw) → Swaps (us ++ vs) xs → Parted us vs xs
  parted [] vs xs s =
      record { front = []; back = xs; of_front = nothing; of_back = s; is = refl }
  parted (u ∷ us) vs _ (both {w = x} {ws = xs} s more) =
      let r = parted us vs xs more in
      record {
        front = x ∷ r.front;
        back = r.back;
        of_front = both s r.of_front;
        of_back = r.of_back;
        is = ap (λ z. x ∷ z) r.is;
      }

  same_last : (v w : Raw) → Swap v w → as_last (out-Raw w) ≡ as_last (out-Raw v)
  same_last v w (leaf_same t a b) = rw (a, b) refl
  same_last v w (literal_other t u us a b c) = rw (a, b) refl
  same_last v w (node_same q vs ws a b c d) = rw (a, b) refl

  alone_else : (v : Raw) (f : Raw-F Raw) → as_last f ≡ false → as_else v f ≡ v ∷ []
  alone_else v (Leaf t) e = refl
  alone_else v (Node q vs) e = rw e refl

  record Last (l : Raw) (xs : List Raw) : Type 0 where
    other : Raw
    swapped : Swap l other
    is : as_else other (out-Raw other) ≡ xs

  last_alone : (l : Raw) (xs : List Raw) → as_last (out-Raw l) ≡ false → Swaps (l ∷ []) xs
      → Last l xs
  last_alone l _ e (both {w = x} s nothing) = record {
    other = x;
    swapped = s;
    is = alone_else x (out-Raw x) (same_last l x s ∙ e);
  }

  last_other : (l : Raw) (xs : List Raw) (f : Raw-F Raw) → out-Raw l ≡ f → Swaps (as_else l f) xs
      → Last l xs
  last_other l xs (Leaf t) o s = last_alone l xs (ap as_last o) s
  last_other l xs (Node q us) o s = go (is_otherwise q) refl s
    where
      go : (b : Bool) → is_otherwise q ≡ b → Swaps (cond b us (l ∷ [])) xs → Last l xs
      go true i s =
          let is : as_else (node q xs) (Node q xs) ≡ xs = rw i refl in
          record {
            other = node q xs;
            swapped = node_same q us xs o (outs-Node q xs)
                (otherwise_fits q (A xs) i) s;
            is = ap (λ f. as_else (node q xs) f) (outs-Node q xs) ∙ is;
          }
      go false i s = last_alone l xs (ap as_last o ∙ i) s

  chain_three : (t a l w : Raw)
      → AsNode production.IfExpr (as_else l (out-Raw l) ++ a ∷ t ∷ []) w
      → Rebuilt production.IfExpr (t ∷ a ∷ l ∷ []) w
  chain_three t a l w n =
      let r = parted (as_else l (out-Raw l)) (a ∷ t ∷ []) n.parts n.swapped in
      let last = last_other l r.front (out-Raw l) refl r.of_front in
      go r.back r.of_back last.other last.swapped
      (n.is ∙ ap (node production.IfExpr) (r.is ∙ ap (λ z. z ++ r.back) (sym last.is)))
    where
      go : (bs : List Raw) → Swaps (a ∷ t ∷ []) bs → (k : Raw) → Swap l k
          → w ≡ node production.IfExpr (as_else k (out-Raw k) ++ bs)
          → Rebuilt production.IfExpr (t ∷ a ∷ l ∷ []) w
      go _ (both {w = b} s (both {w = u} x nothing)) k y is = record {
        parts = u ∷ b ∷ k ∷ [];
        fits = tt;
        swapped = both x (both s (both y nothing));
        is = is;
      }

  chain : (vs : List Raw) (w : Raw) → Swap (build_chain vs) w
      → Rebuilt production.IfExpr vs w
  chain [] w s =
      none_built production.IfExpr w refl
      (just_node production.IfExpr [] w (λ e. cc) s)
  chain (v ∷ []) w s =
      one_built production.IfExpr v w (λ x t. refl)
      (just_node production.IfExpr (v ∷ []) w (λ e. cc) s)
  chain (v ∷ u ∷ []) w s =
      many_built production.IfExpr v u w [] two
      (just_node production.IfExpr (v ∷ u ∷ []) w (λ e. cc) s)
    where
      two : (x y : Raw) (xs : List Raw) → Swaps [] xs
          → build production.IfExpr (x ∷ y ∷ xs) ≡ node production.IfExpr (x ∷ y ∷ xs)
      two x y _ nothing = refl
  chain (t ∷ a ∷ l ∷ []) w s =
      chain_three t a l w
      (just_node production.IfExpr (as_else l (out-Raw l) ++ a ∷ t ∷ []) w (λ e. cc) s)
  chain (v ∷ u ∷ x ∷ y ∷ vs) w s =
      many_built production.IfExpr v u w (x ∷ y ∷ vs) four
      (just_node production.IfExpr (v ∷ u ∷ x ∷ y ∷ vs) w (λ e. cc) s)
    where
      four : (a b : Raw) (xs : List Raw) → Swaps (x ∷ y ∷ vs) xs
          → build production.IfExpr (a ∷ b ∷ xs) ≡ node production.IfExpr (a ∷ b ∷ xs)
      four a b _ (both s (both t more)) = refl

  pub rebuilt : (q : Production) (vs : List Raw) (w : Raw) → Swap (build q vs) w
      → Rebuilt q vs w ⊎ AsLiteral q vs w
  rebuilt production.Parens vs w s = inl (parens vs w s)
  rebuilt production.ElseExpr vs w s = inl (otherwise vs w s)
  rebuilt production.IfExpr vs w s = inl (chain vs w s)
  rebuilt q vs w s = plain q vs w (λ us. refl) s
