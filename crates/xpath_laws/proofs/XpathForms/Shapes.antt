-- Expressions of XPath have no direct elements.
use Rattle.std.proofs.Common.{◌≡◌, List, [], ◌∷◌, ◌++◌, map, Bool, true, false, cond, ◌&&◌, not}
use Rattle.std.proofs.Common.{Option, Some, None, refl, sym, ap, subst, ◌∙◌}
use Rattle.std.proofs.lemmas.Bool.{and_parts}
use Rattle.std.proofs.lemmas.Option.{same_Some, none-some}
use Rattle.std.specs.List.{list_all}
use Rattle.expr_terms.specs.Productions.{body, head, speaks, keeps, passes}
use Rattle.expr_terms.specs.Raws.{build, build_plain, build_parens, build_else, build_chain}
use Rattle.expr_terms.specs.Raws.{is_parens, is_conditional, is_otherwise, as_parens, as_chain}
use Rattle.expr_terms.specs.Raws.{only_chain, as_inner_chain, chain_or, as_else}
use Rattle.expr_keys.specs.declared.productions.Language.TheVariants.{Xpath as xpath}
use Rattle.expr_keys.specs.declared.productions.Level.TheVariants as level
use Rattle.expr_keys.specs.declared.productions.Nonterminal.{Nonterminal}
use Rattle.expr_keys.specs.declared.productions.Nonterminal.TheVariants as nonterminal
use Rattle.expr_keys.specs.declared.productions.Production.{Production}
use Rattle.expr_keys.specs.declared.productions.Production.TheVariants as production
use Rattle.expr_keys.specs.declared.productions.Symbol.{Symbol}
use Rattle.expr_keys.specs.declared.productions.Symbol.TheVariants.{Tok as tok, One as one}
use Rattle.expr_keys.specs.declared.productions.Symbol.TheVariants.{Maybe as maybe, Many as many}
use Rattle.expr_keys.specs.declared.productions.Symbol.TheVariants.{Longest as longest}
use Rattle.expr_keys.specs.declared.tokens.Token.{Token}
use Rattle.expr_terms.specs.declared.raws.Raw.{Raw}
use Rattle.expr_terms.specs.declared.raws.Raw.TheVariants.{Leaf as leaf, Node as node}
use Rattle.expr_terms.specs.declared.raws.Raw.TheVariants.{rolls-Node}
use Rattle.expr_terms.specs.declared.raws.Raw.TheViews.{out-Raw}
use Rattle.expr_terms.specs.declared.raws.Raw.TheOpen.{Raw-F, Leaf, Node}
use Rattle.expr_grammar.specs.Grammar.{Derives, by, Seq, Spells}
use Rattle.expr_grammar.specs.Grammar as grammar
use Rattle.expr_rules.specs.declared.expr_shapes.shapes.Shape.{Shape}
use Rattle.expr_rules.specs.ExprShapes.Shapes.{is_good, own_shape, shape_of, is_shaped}
use Rattle.xpath_laws.proofs.XpathForms.Swapped.{node_is}
use Rattle.sound_expressions.proofs.ExprRegular.Found.{shape-roll}
use Rattle.sound_expressions.proofs.ExprRegular.TypeShapes.{leaf_shaped, EachShaped, all_shaped}

-- what direct elements are made of
unfoldable is_direct : Nonterminal → Bool
is_direct nonterminal.DirElemConstructor = true
is_direct nonterminal.DirElemClosing = true
is_direct nonterminal.DirAttribute = true
is_direct nonterminal.AttrValueContent = true
is_direct nonterminal.DirElemContent = true
is_direct _ = false

abbrev none_direct : List Symbol → Bool
none_direct [] = true
none_direct (tok c ∷ ss) = none_direct ss
none_direct (one n ∷ ss) = not (is_direct n) && none_direct ss
none_direct (maybe n ∷ ss) = not (is_direct n) && none_direct ss
none_direct (many n ∷ ss) = not (is_direct n) && none_direct ss
none_direct (longest n ∷ ss) = not (is_direct n) && none_direct ss

plain_body : (q : Production) → speaks xpath q ≡ true → is_direct (head q) ≡ false
    → none_direct (body q) ≡ true
unfolding is_direct
plain_body production.DirectConstructor o h = absurd cc
plain_body production.DirectElement o h = absurd cc
plain_body production.ElementContent o h = absurd cc
plain_body production.EmptyElement o h = absurd cc
plain_body production.AttributeValue o h = absurd cc
plain_body production.PartChars o h = absurd cc
plain_body production.PartEnclosed o h = absurd cc
plain_body production.ChildElement o h = absurd cc
plain_body production.ItemChars o h = absurd cc
plain_body production.ItemEnclosed o h = absurd cc
plain_body (production.OperatorChain level.Or) o h = refl
plain_body (production.OperatorChain level.And) o h = refl
plain_body (production.OperatorChain level.Comparison) o h = refl
plain_body (production.OperatorChain level.Range) o h = refl
plain_body (production.OperatorChain level.Additive) o h = refl
plain_body (production.OperatorChain level.Multiplicative) o h = refl
plain_body (production.OperatorChain level.Union) o h = refl
plain_body (production.OperatorChain level.Intersect) o h = refl
plain_body (production.OperatorChain level.InstanceOf) o h = refl
plain_body (production.OperatorChain level.Treat) o h = refl
plain_body (production.OperatorChain level.Castable) o h = refl
plain_body (production.OperatorChain level.Cast) o h = refl
plain_body (production.OperatorTail level.InstanceOf) o h = refl
plain_body (production.OperatorTail level.Treat) o h = refl
plain_body (production.OperatorTail level.Castable) o h = refl
plain_body (production.OperatorTail level.Cast) o h = refl
plain_body (production.OperatorTail level.Or) o h = refl
plain_body (production.OperatorTail level.And) o h = refl
plain_body (production.OperatorTail level.Comparison) o h = refl
plain_body (production.OperatorTail level.Range) o h = refl
plain_body (production.OperatorTail level.Additive) o h = refl
plain_body (production.OperatorTail level.Multiplicative) o h = refl
plain_body (production.OperatorTail level.Union) o h = refl
plain_body (production.OperatorTail level.Intersect) o h = refl
plain_body _ o h = refl

abbrev Free : Production → Type 0
Free q = (ss : List Shape) → own_shape q ss ≡ true

free : (q : Production) → is_direct (head q) ≡ false → Free q
unfolding is_direct own_shape
free production.DirectElement h ss = absurd cc
free production.ChildElement h ss = absurd cc
free production.AttributeValue h ss = absurd cc
free _ h ss = refl

shape_node : (q : Production) (vs : List Raw)
    → is_shaped (node q vs) ≡ (list_all is_good (map shape_of vs) && own_shape q (map shape_of vs))
shape_node q vs = ap (λ v. is_shaped v) (sym (rolls-Node q vs))
    ∙ ap (λ x. x.good) (shape-roll (Node q vs))

each_shaped : (vs : List Raw) → list_all is_good (map shape_of vs) ≡ true → EachShaped vs
each_shaped [] h = tt
each_shaped (v ∷ vs) h =
    let a = and_parts (is_shaped v) (list_all is_good (map shape_of vs)) h in
    (a.0, each_shaped vs a.1)

append_shaped : (us vs : List Raw) → EachShaped us → EachShaped vs → EachShaped (us ++ vs)
append_shaped [] vs g h = h
append_shaped (u ∷ us) vs g h = (g.0, append_shaped us vs g.1 h)

node_shaped : (q : Production) (vs : List Raw) → Free q → EachShaped vs
    → is_shaped (node q vs) ≡ true
node_shaped q vs o h = shape_node q vs ∙ rw (all_shaped vs h, o (map shape_of vs)) refl

parts_shaped : (v : Raw) (q : Production) (vs : List Raw) → out-Raw v ≡ Node q vs
    → is_shaped v ≡ true → EachShaped vs
parts_shaped v q vs o h =
    let e : is_shaped (node q vs) ≡ true =
    subst (λ x. is_shaped x ≡ true) (node_is v q vs o) h in
    each_shaped vs (and_parts (list_all is_good (map shape_of vs)) (own_shape q (map shape_of vs))
    (sym (shape_node q vs) ∙ e)).0

chain_shaped : (v : Raw) (us : List Raw) (f : Raw-F Raw) → out-Raw v ≡ f → as_chain f ≡ Some us
    → is_shaped v ≡ true → EachShaped us
chain_shaped v us (Leaf t) o e h = absurd (none-some _ e)
chain_shaped v us (Node q vs) o e h = go (is_conditional q) e
  where
    go : (b : Bool) → cond b (Some vs) None ≡ Some us → EachShaped us
    go true e = subst EachShaped (same_Some _ _ e) (parts_shaped v q vs o h)
    go false e = absurd (none-some _ e)

inner_shaped : (v : Raw) (us : List Raw) (f : Raw-F Raw) → out-Raw v ≡ f
    → as_inner_chain f ≡ Some us → is_shaped v ≡ true → EachShaped us
inner_shaped v us (Leaf t) o e h = absurd (none-some _ e)
inner_shaped v us (Node q vs) o e h =
    go (is_conditional q) (is_parens q) e (parts_shaped v q vs o h)
  where
    only : (ws : List Raw) → only_chain ws ≡ Some us → EachShaped ws → EachShaped us
    only [] e g = absurd (none-some _ e)
    only (w ∷ []) e g = chain_shaped w us (out-Raw w) refl e g.0
    only (w ∷ x ∷ ws) e g = absurd (none-some _ e)

    go : (b c : Bool) → cond b (Some vs) (cond c (only_chain vs) None) ≡ Some us → EachShaped vs
        → EachShaped us
    go true c e g = subst EachShaped (same_Some _ _ e) g
    go false true e g = only vs e g
    go false false e g = absurd (none-some _ e)

plain_shaped : (q : Production) (vs : List Raw) → Free q → EachShaped vs
    → is_shaped (build_plain q vs) ≡ true
plain_shaped q [] o h = node_shaped q [] o h
plain_shaped q (v ∷ []) o h = go (passes q)
  where
    go : (b : Bool) → is_shaped (cond b v (node q (v ∷ []))) ≡ true
    go true = h.0
    go false = node_shaped q (v ∷ []) o h
plain_shaped q (v ∷ w ∷ vs) o h = node_shaped q (v ∷ w ∷ vs) o h

parens_shaped : (vs : List Raw) → Free production.Parens → EachShaped vs
    → is_shaped (build_parens vs) ≡ true
parens_shaped [] o h = node_shaped production.Parens [] o h
parens_shaped (v ∷ []) o h = go (as_parens (out-Raw v))
  where
    go : (b : Bool) → is_shaped (cond b v (node production.Parens (v ∷ []))) ≡ true
    go true = h.0
    go false = node_shaped production.Parens (v ∷ []) o h
parens_shaped (v ∷ w ∷ vs) o h = node_shaped production.Parens (v ∷ w ∷ vs) o h

else_shaped : (vs : List Raw) → Free production.ElseExpr → EachShaped vs
    → is_shaped (build_else vs) ≡ true
else_shaped [] o h = node_shaped production.ElseExpr [] o h
else_shaped (v ∷ []) o h = go (as_inner_chain (out-Raw v)) refl
  where
    go : (c : Option (List Raw)) → as_inner_chain (out-Raw v) ≡ c
        → is_shaped (chain_or c v) ≡ true
    go None e = node_shaped production.ElseExpr (v ∷ []) o h
    go (Some us) e =
        node_shaped production.ElseExpr us o (inner_shaped v us (out-Raw v) refl e h.0)
else_shaped (v ∷ w ∷ vs) o h = node_shaped production.ElseExpr (v ∷ w ∷ vs) o h

last_shaped : (v : Raw) (f : Raw-F Raw) → out-Raw v ≡ f → is_shaped v ≡ true
    → EachShaped (as_else v f)
last_shaped v (Leaf t) o h = (h, tt)
last_shaped v (Node q vs) o h = go (is_otherwise q)
  where
    go : (b : Bool) → EachShaped (cond b vs (v ∷ []))
    go true = parts_shaped v q vs o h
    go false = (h, tt)

if_shaped : (vs : List Raw) → Free production.IfExpr → EachShaped vs
    → is_shaped (build_chain vs) ≡ true
if_shaped [] o h = node_shaped production.IfExpr [] o h
if_shaped (v ∷ []) o h = node_shaped production.IfExpr (v ∷ []) o h
if_shaped (v ∷ w ∷ []) o h = node_shaped production.IfExpr (v ∷ w ∷ []) o h
if_shaped (v ∷ w ∷ x ∷ []) o h =
    node_shaped production.IfExpr (as_else x (out-Raw x) ++ w ∷ v ∷ []) o
    (append_shaped (as_else x (out-Raw x)) (w ∷ v ∷ []) (last_shaped x (out-Raw x) refl h.1.1.0)
    (h.1.0, (h.0, tt)))
if_shaped (v ∷ w ∷ x ∷ y ∷ vs) o h = node_shaped production.IfExpr (v ∷ w ∷ x ∷ y ∷ vs) o h

built_shaped : (q : Production) (vs : List Raw) → Free q → EachShaped vs
    → is_shaped (build q vs) ≡ true
built_shaped production.Parens vs o h = parens_shaped vs o h
built_shaped production.ElseExpr vs o h = else_shaped vs o h
built_shaped production.IfExpr vs o h = if_shaped vs o h
built_shaped q vs o h = plain_shaped q vs o h

no_direct : (n : Nonterminal) (ss : List Symbol) → (not (is_direct n) && none_direct ss) ≡ true
    → (is_direct n ≡ false) × (none_direct ss ≡ true)
no_direct n ss h = go (is_direct n) refl h
  where
    go : (b : Bool) → is_direct n ≡ b → (not b && none_direct ss) ≡ true
        → (is_direct n ≡ false) × (none_direct ss ≡ true)
    go true e h = absurd cc
    go false e h = (e, h)

kept_shaped : (t : Token) (vs : List Raw) (b : Bool) → EachShaped vs
    → EachShaped (cond b (leaf t ∷ vs) vs)
kept_shaped t vs true h = (leaf_shaped t, h)
kept_shaped t vs false h = h

mutual
  derived_shaped : {n : Nonterminal} {ts rest : List Token} {v : Raw} → Derives xpath n ts v rest
      → is_direct n ≡ false → is_shaped v ≡ true
  derived_shaped (by q {vs = vs} o e d) h =
      let plain : is_direct (head q) ≡ false = ap is_direct e ∙ h in
      built_shaped q vs (free q plain) (sequel_shaped d (plain_body q o plain))

  sequel_shaped : {ss : List Symbol} {ts rest : List Token} {vs : List Raw}
      → Seq xpath ss ts vs rest → none_direct ss ≡ true → EachShaped vs
  sequel_shaped grammar.end h = tt
  sequel_shaped (grammar.taken {c = c} {t = t} {vs = vs} f q) h =
      kept_shaped t vs (keeps c) (sequel_shaped q h)
  sequel_shaped (grammar.next {n = n} {ss = ss} d q) h =
      let r = no_direct n ss h in (derived_shaped d r.0, sequel_shaped q r.1)
  sequel_shaped (grammar.without {n = n} {ss = ss} q) h = sequel_shaped q (no_direct n ss h).1
  sequel_shaped (grammar.with {n = n} {ss = ss} d q) h =
      let r = no_direct n ss h in (derived_shaped d r.0, sequel_shaped q r.1)
  sequel_shaped (grammar.stop {n = n} {ss = ss} q) h = sequel_shaped q (no_direct n ss h).1
  sequel_shaped (grammar.again {n = n} {ss = ss} d q) h =
      (derived_shaped d (no_direct n ss h).0, sequel_shaped q h)
  sequel_shaped (grammar.bare {n = n} {ss = ss} x q) h = sequel_shaped q (no_direct n ss h).1
  sequel_shaped (grammar.given {n = n} {ss = ss} x d q) h =
      let r = no_direct n ss h in (derived_shaped d r.0, sequel_shaped q r.1)

pub whole_shaped : {ts : List Token} {v : Raw} → Spells xpath ts v → is_shaped v ≡ true
unfolding is_direct
whole_shaped d = derived_shaped d refl
