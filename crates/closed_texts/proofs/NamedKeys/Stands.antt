-- Each call in an expression of a stylesheet may be there.
use Rattle.std.proofs.Common.{◌≡◌, ℕ, ◌≤◌, List, [], ◌∷◌, map, length, Bool, true, false, cond}
use Rattle.std.proofs.Common.{Option, Some, None, refl, sym, ap, subst, ◌∙◌}
use Rattle.std.proofs.lemmas.Bool.{and_parts, and_from}
use Rattle.xt_names.specs.Allowed.{is_empty_text}
use Rattle.xt_names.specs.declared.names.Binding.{Binding}
use Rattle.xt_names.specs.declared.codes.Code.TheVariants.{QueryStatic}
use Rattle.xt_names.specs.declared.codes.QueryStaticCode.TheVariants.{XPST0081}
use Rattle.xt_names.specs.declared.names.ExprName.{ExprName}
use Rattle.xt_syntax.specs.declared.exprs.Expr.{Expr}
use Rattle.xt_syntax.specs.declared.exprs.Expr.TheVariants as expr
use Rattle.function_table.specs.Find.{is_in_fn}
use Rattle.expr_keys.specs.declared.productions.Language.TheVariants.{Xpath as xpath}
use Rattle.expr_keys.specs.declared.productions.Production.TheVariants as production
use Rattle.expr_keys.specs.declared.tokens.Token.{Token}
use Rattle.expr_terms.specs.declared.raws.Raw.{Raw}
use Rattle.expr_terms.specs.declared.raws.Raw.TheVariants.{Leaf as leaf, outs-Leaf}
use Rattle.expr_terms.specs.declared.raws.Raw.TheViews.{out-Raw}
use Rattle.expr_terms.specs.declared.raws.Raw.TheOpen.{Node}
use Rattle.expr_terms.specs.Nest.{raw_nest_of}
use Rattle.expr_grammar.specs.Grammar.{Spells}
use Rattle.expr_names.specs.Names.{uri_in, undeclared, undeclared_in, expr_name}
use Rattle.expr_names.specs.declared.written.Written.{Written}
use Rattle.expr_rules.specs.declared.expr_meant.meant.Meant.TheVariants as meant
use Rattle.expr_rules.specs.ExprMeant.Names.{written_in, written_of}
use Rattle.expr_rules.specs.Known.{name_of}
use Rattle.expr_resolve.specs.declared.setting.Setting.{Setting}
use Rattle.expr_resolve.specs.Folds.{broken_of, expr_meant}
use Rattle.sheet_uses.specs.declared.uses.Use.{Use}
use Rattle.sheet_uses.specs.Exprs.{expr_uses, first_literal}
use Rattle.sheet_expressions.specs.declared.calls.SheetCall.{SheetCall}
use Rattle.sheet_expressions.specs.declared.calls.SheetCall.TheVariants as call
use Rattle.sheet_expressions.specs.Calls.{sheet_call}
use Rattle.sheet_expressions.specs.Parts.{name_unless, name_in, literal_in}
use Rattle.sheet_expressions.specs.Parts.{argued_in, argued_of, call_asks}
use Rattle.sheet_expressions.specs.Checked.{checked}
use Rattle.sheet_closure.specs.StandingParts.Calls.{may_stand, use_stands}
use Rattle.sound_expressions.specs.SoundForms.Sound.{SoundBindings, is_sound_token, are_sound}
use Rattle.xpath_laws.proofs.XpathForms.Swapped.{Swapped, IsLiteral}
use Rattle.xpath_laws.proofs.XpathForms.Reread.{AlikeToken, same_token, other_text, Alike, no_tokens}
use Rattle.xpath_laws.proofs.XpathForms.Reread.{and_token}
use Rattle.xpath_laws.proofs.XpathForms.Nests.{no_deeper}
use Rattle.xpath_laws.proofs.XpathForms.Fits.{Fit, AllHold}
use Rattle.xpath_laws.proofs.XpathForms.Good.{FirstIs}
use Rattle.xpath_laws.proofs.XpathForms.Grown.{Rules}
use Rattle.xpath_laws.proofs.XpathForms.Whole.{Ruled, respelled, fits}
use Rattle.closed_texts.proofs.NamedKeys.Asked.{Stands, standing, variable_stands, call_stands, literal_uses}
use Rattle.closed_texts.proofs.NamedKeys.Keys.{key_sound}
use Rattle.closed_texts.proofs.NamedKeys.Swaps.{CallFits, first_of, literal_is, swapped}
use Rattle.xt_names.specs.ExprNames.{uri_of}

-- tokens with other literals are sound too
token_sound : (t u : Token) → AlikeToken t u → is_sound_token t ≡ true → is_sound_token u ≡ true
token_sound t _ same_token h = h
token_sound _ _ (other_text x) h = x

alike_sound : (ts us : List Token) → Alike ts us → are_sound ts ≡ true → are_sound us ≡ true
alike_sound _ _ no_tokens h = refl
alike_sound _ _ (and_token {t = t} {u = u} {ts = ts} {us = us} a others) h =
    let x = and_parts (is_sound_token t) (are_sound ts) h in
    and_from (is_sound_token u) _ (token_sound t u a x.0) (alike_sound ts us others x.1)

-- a name that is not declared is none of the functions that are asked for
undeclared_call : (bound : List Binding) (functions : List ℕ) (w : Written) (n : ℕ)
    → sheet_call (name_unless (undeclared_in bound w) (expr_name bound functions w)) n
    ≡ sheet_call (expr_name bound functions w) n
unfolding undeclared_in undeclared uri_in name_unless sheet_call is_in_fn is_empty_text
undeclared_call bound functions w n =
    go (is_empty_text w.prefix) (uri_of bound w.prefix)
  where
    go : (a : Bool) (uri : List ℕ) → sheet_call (name_unless
        (cond a [] (cond (is_empty_text uri) (QueryStatic XPST0081 ∷ []) []))
        (record { uri = cond a functions uri; local = w.local })) n
        ≡ sheet_call (record { uri = cond a functions uri; local = w.local }) n
    go true uri = refl
    go false [] = refl
    go false (c ∷ cs) = refl

may_more : (grouped : Bool) (c : SheetCall) (o : Option (List ℕ))
    → may_stand grouped c None ≡ true → may_stand grouped c o ≡ true
unfolding may_stand
may_more grouped call.Plain o h = refl
may_more grouped call.LeftOut o h = refl
may_more grouped call.InGroup o h = h
may_more grouped call.Key o h = absurd cc

may_other : (grouped : Bool) (c : SheetCall) (t u : List ℕ)
    → may_stand grouped c (Some t) ≡ true → may_stand grouped c (Some u) ≡ true
unfolding may_stand
may_other grouped call.Plain t u h = refl
may_other grouped call.LeftOut t u h = refl
may_other grouped call.InGroup t u h = h
may_other grouped call.Key t u h = refl

module _ (s : Setting) (grouped : Bool) (u : SoundBindings s.prefixes.bound) where
  abbrev Asked : List Raw → Type 0
  Asked vs = CallFits s.prefixes grouped vs

  abbrev stands : Use → Bool
  stands x = use_stands grouped x

  abbrev at_token : Token → ExprName
  at_token t = name_of s.prefixes.bound s.prefixes.function_default (meant.Token t)

  same_call : (t : Token) (n : ℕ) → sheet_call (name_in s.prefixes (out-Raw (leaf t))) n
      ≡ sheet_call (at_token t) n
  unfolding written_of
  same_call t n =
      ap (λ f. sheet_call (name_in s.prefixes f) n) (outs-Leaf t)
      ∙ undeclared_call s.prefixes.bound s.prefixes.function_default (written_in t) n

  abbrev Holds : Expr → Type 0
  Holds e = Stands stands e

  bare_stands : (t : Token) → Asked (leaf t ∷ []) → Holds (expr.Call (at_token t) [])
  unfolding use_stands
  bare_stands t a =
      call_stands stands (at_token t) [] tt
      (subst (λ c. may_stand grouped c None ≡ true) (same_call t 0)
      (subst (λ f. may_stand grouped (call_asks s.prefixes (leaf t ∷ [])) (first_of f) ≡ true)
      (outs-Leaf t) a))

  first_stands : (c : SheetCall) (vs : List Raw) (es : List Expr) → length es ≡ length vs
      → ((w : Raw) (ws : List Raw) → vs ≡ w ∷ ws → (l : IsLiteral w) → FirstIs es l.text)
      → may_stand grouped c (first_of (Node production.ArgumentList vs)) ≡ true
      → may_stand grouped c (first_literal (map expr_uses es)) ≡ true
  first_stands c [] es n f h = may_more grouped c (first_literal (map expr_uses es)) h
  first_stands c (w ∷ ws) es n f h = go (literal_in (out-Raw w)) refl h
    where
      literal : (es : List Expr) (t : List ℕ) → FirstIs es t
          → first_literal (map expr_uses es) ≡ Some t
      literal [] t g = absurd g
      literal (e ∷ es) t g = ap (λ x. (expr_uses x).literal) g ∙ literal_uses t

      go : (x : Option (List ℕ)) → literal_in (out-Raw w) ≡ x → may_stand grouped c x ≡ true
          → may_stand grouped c (first_literal (map expr_uses es)) ≡ true
      go None e h = may_more grouped c (first_literal (map expr_uses es)) h
      go (Some t) e h =
          let l = literal_is w (out-Raw w) t refl e in
          subst (λ x. may_stand grouped c x ≡ true) (sym (literal es l.text (f w ws refl l)))
          (may_other grouped c t l.text h)

  map_length : {A B : Type 0} (f : A → B) (xs : List A) → length (map f xs) ≡ length xs
  map_length f [] = refl
  map_length f (x ∷ xs) = rw (map_length f xs) refl

  argued_stands : (t : Token) (a : Raw) (vs : List Raw) (es : List Expr)
      → Asked (leaf t ∷ a ∷ []) → out-Raw a ≡ Node production.ArgumentList vs → length es ≡ length vs
      → ((w : Raw) (ws : List Raw) → vs ≡ w ∷ ws → (l : IsLiteral w) → FirstIs es l.text)
      → AllHold Holds es → Holds (expr.Call (at_token t) es)
  unfolding use_stands argued_of
  argued_stands t a vs es x e n f h =
      let asks : may_stand grouped (sheet_call (name_in s.prefixes (out-Raw (leaf t))) (length vs))
      (first_of (Node production.ArgumentList vs)) ≡ true =
      subst (λ g. may_stand grouped
      (sheet_call (name_in s.prefixes (out-Raw (leaf t))) (argued_in g)) (first_of g) ≡ true) e x in
      let named : may_stand grouped (sheet_call (at_token t) (length vs))
      (first_of (Node production.ArgumentList vs)) ≡ true =
      subst (λ c. may_stand grouped c (first_of (Node production.ArgumentList vs)) ≡ true)
      (same_call t (length vs)) asks in
      let size : length vs ≡ length (map expr_uses es) = sym (map_length expr_uses es ∙ n) in
      call_stands stands (at_token t) es h
      (first_stands (sheet_call (at_token t) (length (map expr_uses es))) vs es n f
      (subst
      (λ k. may_stand grouped (sheet_call (at_token t) k) (first_of (Node production.ArgumentList vs))
      ≡ true)
      size named))

  rules : Rules (standing stands) s (Ruled s Asked)
  unfolding use_stands
  rules = record {
    variable = λ name. variable_stands stands name refl;
    unbroken = λ vs a. a.1;
    bare_call = λ t a. bare_stands t a.0;
    call = λ t a vs es x e n f h. argued_stands t a vs es x.0 e n f h;
  }

  swap : (v w : Raw) → checked s.prefixes grouped v ≡ Some w → Swapped Asked v w
  swap v w e = swapped s.prefixes grouped (key_sound s.prefixes.bound u) v w e

  pub named_spelled : {ts : List Token} (v w : Raw) → are_sound ts ≡ true → Spells xpath ts v
      → checked s.prefixes grouped v ≡ Some w
      → (us : List Token) × (are_sound us ≡ true) × Spells xpath us w
  named_spelled {ts = ts} v w h d e =
      let r = respelled s Asked d (swap v w e) in
      (r.new, alike_sound ts r.new r.alike h, r.spelled)

  pub named_nests : (v w : Raw) → checked s.prefixes grouped v ≡ Some w
      → raw_nest_of w ≤ raw_nest_of v
  named_nests v w e = no_deeper Asked (swap v w e)

  pub named_fits : {ts : List Token} (v w : Raw) → Spells xpath ts v
      → checked s.prefixes grouped v ≡ Some w → broken_of s w ≡ []
      → Fit (standing stands) (raw_nest_of w) (expr_meant s w)
  named_fits v w d e b = fits s Asked (standing stands) rules d (swap v w e) b
