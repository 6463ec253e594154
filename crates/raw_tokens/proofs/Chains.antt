-- The tokens of a conditional derive it, with all that its `else` goes on with.
use Rattle.std.proofs.Common.{◌≡◌, Bool, true, false, ◌&&◌, not, List, [], ◌∷◌, ◌++◌, refl}
use Rattle.std.proofs.Common.{sym, ap, subst, append_assoc, append-nil, Option, Some, None}
use Rattle.std.proofs.Common.{is_some}
use Rattle.std.proofs.lemmas.Bool.{and_parts}
use Rattle.expr_terms.specs.Productions.{speaks}
use Rattle.expr_terms.specs.Raws.{build, as_inner_chain, chain_or, as_else, in_chain}
use Rattle.expr_keys.specs.declared.keys.Key.TheVariants as key
use Rattle.expr_keys.specs.declared.tokens.Token.{Token}
use Rattle.expr_keys.specs.declared.tokens.Token.TheVariants as token
use Rattle.expr_keys.specs.declared.productions.Language.{Language}
use Rattle.expr_keys.specs.declared.productions.Language.TheVariants as language
use Rattle.expr_keys.specs.declared.productions.Nonterminal.TheVariants as place
use Rattle.expr_keys.specs.declared.productions.Production.TheVariants as production
use Rattle.expr_terms.specs.declared.raws.Raw.{Raw}
use Rattle.expr_terms.specs.declared.raws.Raw.TheVariants.{Node as node, outs-Node}
use Rattle.expr_terms.specs.declared.raws.Raw.TheViews.{out-Raw}
use Rattle.expr_grammar.specs.Grammar.{Derives, by, end, taken, next}
use Rattle.raw_tokens.specs.Tokens.{arm_tokens, arms_tokens, chain_tokens}
use Rattle.raw_tokens.specs.Stands.{Placed, prints, is_nothing, arms_stand, chain_stands}
use Rattle.raw_tokens.proofs.Built.{never, false_of}
use Rattle.raw_tokens.proofs.Parts.{values, Good, AllGood}

abbrev chain : List Raw → Raw
chain vs = node production.IfExpr vs

abbrev last : List Raw → Raw
last vs = node production.ElseExpr vs

joins : (test arm : Raw) (us : List Raw)
    → in_chain test arm (last us) ≡ chain (us ++ arm ∷ test ∷ [])
joins test arm us = ap (λ f. chain (as_else (last us) f ++ arm ∷ test ∷ []))
    (outs-Node production.ElseExpr us)

goes_on : (us : List Raw) → build production.ElseExpr (chain us ∷ []) ≡ last us
goes_on us = ap (λ f. chain_or (as_inner_chain f) (chain us)) (outs-Node production.IfExpr us)

none_if : {A : Type 0} (o : Option A) → is_some o ≡ false → o ≡ None
none_if None e = refl
none_if (Some x) e = never (sym e)

ends_in : (v : Raw) → not (is_some (as_inner_chain (out-Raw v))) ≡ true
    → build production.ElseExpr (v ∷ []) ≡ last (v ∷ [])
ends_in v e = ap (λ o. chain_or o v) (none_if (as_inner_chain (out-Raw v)) (false_of e))

speaks_chain : (l : Language) → speaks l production.IfExpr ≡ true
speaks_chain language.Xpath = refl
speaks_chain language.Xquery = refl

speaks_last : (l : Language) → speaks l production.ElseExpr ≡ true
speaks_last language.Xpath = refl
speaks_last language.Xquery = refl

module _ (l : Language) where
  -- .. else a value
  abbrev Last : List Token → List Raw → List Token → Type 0
  Last ts us rest = Derives l place.ElsePart (token.Key key.ElseWord ∷ ts) (last us) rest

  as_last : {ts rest : List Token} {v : Raw} (us : List Raw)
      → build production.ElseExpr (v ∷ []) ≡ last us → Derives l place.ExprSingle ts v rest
      → Last ts us rest
  as_last {ts = ts} {rest = rest} us e d =
      subst (λ w. Derives l place.ElsePart (token.Key key.ElseWord ∷ ts) w rest) e
      (by production.ElseExpr (speaks_last l) refl (taken refl (next d end)))

  arm_derives : (arm test : Placed) {acc rest : List Token} (us : List Raw)
      → Good l arm → Good l test
      → test.stands place.Expr (token.Key key.CloseParen ∷ token.Key key.ThenWord
      ∷ arm.printed.tokens place.ExprSingle (token.Key key.ElseWord ∷ acc)) ≡ true
      → arm.stands place.ExprSingle (token.Key key.ElseWord ∷ acc) ≡ true → Last acc us rest
      → Derives l place.ExprSingle (arm_tokens arm.printed test.printed acc)
      (chain (us ++ arm.printed.raw ∷ test.printed.raw ∷ [])) rest
  arm_derives arm test {acc = acc} {rest = rest} us g h e f d =
      subst (λ w. Derives l place.ExprSingle (arm_tokens arm.printed test.printed acc) w rest)
      (joins test.printed.raw arm.printed.raw us)
      (by production.IfExpr (speaks_chain l) refl (taken refl (taken refl
      (next (h place.Expr _ e) (taken refl (taken refl (next (g place.ExprSingle _ f)
      (next d end))))))))

  arms_derive : (ps : List Placed) {acc rest : List Token} (us : List Raw) → AllGood l ps
      → arms_stand ps acc ≡ true → Derives l place.ExprSingle acc (chain us) rest
      → Derives l place.ExprSingle (arms_tokens (prints ps) acc) (chain (us ++ values ps)) rest
  arms_derive [] {acc = acc} {rest = rest} us g e d =
      subst (λ vs. Derives l place.ExprSingle acc (chain vs) rest) (sym (append-nil us)) d
  arms_derive (arm ∷ []) us g e d = never e
  arms_derive (arm ∷ test ∷ ps) {acc = acc} {rest = rest} us g e d =
      let h = and_parts _ _ e in
      let i = and_parts _ _ h.0 in
      let pair : List Raw = arm.printed.raw ∷ test.printed.raw ∷ [] in
      subst (λ vs. Derives l place.ExprSingle (arms_tokens (prints (arm ∷ test ∷ ps)) acc) (chain vs)
      rest) (append_assoc us pair (values ps))
      (arms_derive ps (us ++ pair) g.1.1 h.1 (arm_derives arm test us g.0 g.1.0 i.0 i.1
      (as_last us (goes_on us) d)))

  -- a conditional that stands has a last part, and after it arms with their tests
  record Arms (p : Placed) (ps : List Placed) (rest : List Token) : Type 0 where
    ends : not (is_some (as_inner_chain (out-Raw p.printed.raw))) ≡ true
    some : not (is_nothing ps) ≡ true
    stands : p.stands place.ExprSingle rest ≡ true
    arms : arms_stand ps (p.printed.tokens place.ExprSingle rest) ≡ true

  arms_of : (p : Placed) (ps : List Placed) (rest : List Token)
      → chain_stands (p ∷ ps) rest ≡ true → Arms p ps rest
  arms_of p ps rest e =
      let a : Bool = arms_stand ps (p.printed.tokens place.ExprSingle rest) in
      let b : Bool = p.stands place.ExprSingle rest in
      let c : Bool = not (is_nothing ps) in
      let h = and_parts (not (is_some (as_inner_chain (out-Raw p.printed.raw)))) (c && (b && a)) e
      in
      let i = and_parts c (b && a) h.1 in
      let j = and_parts b a i.1 in
      record { ends = h.0; some = i.0; stands = j.0; arms = j.1 }

  pub chain_derives : (ps : List Placed) (rest : List Token) → AllGood l ps
      → chain_stands ps rest ≡ true
      → Derives l place.ExprSingle (chain_tokens (prints ps) rest) (chain (values ps)) rest
  chain_derives [] rest g e = never e
  chain_derives (p ∷ []) rest g e = never (arms_of p [] rest e).some
  chain_derives (p ∷ arm ∷ []) rest g e = never (arms_of p (arm ∷ []) rest e).arms
  chain_derives (p ∷ arm ∷ test ∷ ps) rest g e =
      let h = arms_of p (arm ∷ test ∷ ps) rest e in
      let k = and_parts _ _ h.arms in
      let m = and_parts _ _ k.0 in
      let us : List Raw = p.printed.raw ∷ [] in
      arms_derive ps (us ++ arm.printed.raw ∷ test.printed.raw ∷ []) g.1.1.1 k.1
      (arm_derives arm test us g.1.0 g.1.1.0 m.0 m.1
      (as_last us (ends_in p.printed.raw h.ends) (g.0 place.ExprSingle rest h.stands)))
