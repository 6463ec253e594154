-- What nodes mean, and what their parts break where they break nothing.
use Rattle.std.proofs.Common.{◌≡◌, List, [], ◌∷◌, ◌++◌, map, reverse, Bool, true, false, cond}
use Rattle.std.proofs.Common.{refl, sym, ◌∙◌, ap, subst}
use Rattle.std.proofs.lemmas.List.{reverse-append}
use Rattle.xt_names.specs.declared.codes.Code.{Code}
use Rattle.expr_keys.specs.declared.tokens.Token.{Token}
use Rattle.expr_keys.specs.declared.productions.Production.{Production}
use Rattle.expr_keys.specs.declared.productions.Production.TheVariants as production
use Rattle.expr_terms.specs.declared.raws.Raw.{Raw}
use Rattle.expr_terms.specs.declared.raws.Raw.TheVariants.{Leaf as leaf, Node as node, rolls-Leaf}
use Rattle.expr_terms.specs.declared.raws.Raw.TheVariants.{rolls-Node}
use Rattle.expr_terms.specs.declared.raws.Raw.TheViews.{roll-Raw}
use Rattle.expr_terms.specs.declared.raws.Raw.TheFolds.{map-Raw, fold-roll-Raw}
use Rattle.expr_terms.specs.declared.raws.Raw.TheOpen.{Raw-F, Leaf, Node}
use Rattle.expr_rules.specs.declared.expr_meant.meant.Meant.{Meant}
use Rattle.expr_rules.specs.declared.expr_meant.meant.Meant.TheVariants as meant
use Rattle.expr_resolve.specs.declared.setting.Setting.{Setting}
use Rattle.expr_resolve.specs.Tables.{act, own, end, is_chain, is_tag, before_last}
use Rattle.expr_resolve.specs.Folds.{Found, values, checked, step_broken, steps_broken}
use Rattle.expr_resolve.specs.Folds.{all_broken, parts_broken, parts_values, found_layer, found_of}
use Rattle.expr_resolve.specs.Folds.{value_of, broken_of}
use Rattle.xt_names.proofs.ListLemmas.{front_nil, back_nil}
use Rattle.xt_names.specs.Lists.{is_none}

module _ (s : Setting) where
  found-roll : (x : Raw-F Raw) → found_of s (roll-Raw x)
      ≡ found_layer s (map-Raw Raw Found (found_of s) x)
  found-roll x = fold-roll-Raw _ _ x

  pub value_leaf : (t : Token) → value_of s (leaf t) ≡ meant.Token t
  value_leaf t = ap (λ v. value_of s v) (sym (rolls-Leaf t))
      ∙ ap (λ f. f.value) (found-roll (Leaf t))

  values_are : (vs : List Raw) → values (map (found_of s) vs) ≡ map (value_of s) vs
  values_are [] = refl
  values_are (v ∷ vs) = ap (λ ms. value_of s v ∷ ms) (values_are vs)

  node_value : (q : Production) (vs : List Raw) → value_of s (node q vs)
      ≡ act s q (parts_values q (map (found_of s) vs))
  node_value q vs = ap (λ v. value_of s v) (sym (rolls-Node q vs))
      ∙ ap (λ f. f.value) (found-roll (Node q vs))

  pub value_node : (q : Production) (vs : List Raw) → is_chain q ≡ false
      → value_of s (node q vs) ≡ act s q (map (value_of s) vs)
  value_node q vs c = node_value q vs
      ∙ ap (λ (b : Bool). act s q (cond b (reverse (values (map (found_of s) vs))) (values (map (found_of s) vs)))) c
      ∙ ap (λ ms. act s q ms) (values_are vs)

  pub value_chain : (vs : List Raw) → value_of s (node production.IfExpr vs)
      ≡ act s production.IfExpr (reverse (map (value_of s) vs))
  unfolding is_chain
  value_chain vs = node_value production.IfExpr vs
      ∙ ap (λ ms. act s production.IfExpr (reverse ms)) (values_are vs)

  broken_node : (q : Production) (vs : List Raw) → broken_of s (node q vs)
      ≡ parts_broken s q (map (found_of s) vs) ++ end s q (parts_values q (map (found_of s) vs))
  broken_node q vs = ap (λ v. broken_of s v) (sym (rolls-Node q vs))
      ∙ ap (λ f. f.broken) (found-roll (Node q vs))

  abbrev pub EachUnbroken : List Raw → Type 0
  EachUnbroken [] = Unit {0}
  EachUnbroken (v ∷ vs) = (broken_of s v ≡ []) × EachUnbroken vs

  -- in reading order
  steps_unbroken : (q : Production) (seen : List Meant) (vs : List Raw)
      → steps_broken s q seen (map (found_of s) vs) ≡ [] → EachUnbroken vs
  steps_unbroken q seen [] e = tt
  steps_unbroken q seen (v ∷ vs) e =
      let f = found_of s v in
      let last = is_none (map (found_of s) vs) in
      let more = steps_broken s q (seen ++ f.value ∷ []) (map (found_of s) vs) in
      let a = front_nil (step_broken s q last seen f) more e in
      let b = back_nil (step_broken s q last seen f) more e in
      let c = back_nil (before_last (is_tag q) last seen) (checked s q (is_none seen) f) a in (
        front_nil f.broken (own s q (is_none seen) f.value) c,
        steps_unbroken q (seen ++ f.value ∷ []) vs b,
      )

  -- .. and in reverse order
  assoc : (xs ys zs : List Code) → xs ++ (ys ++ zs) ≡ (xs ++ ys) ++ zs
  assoc [] ys zs = refl
  assoc (x ∷ xs) ys zs = ap (λ cs. x ∷ cs) (assoc xs ys zs)

  all_append : (fs gs : List Found) → all_broken (fs ++ gs) ≡ all_broken fs ++ all_broken gs
  all_append [] gs = refl
  all_append (f ∷ fs) gs = ap (λ cs. f.broken ++ cs) (all_append fs gs)
      ∙ assoc f.broken (all_broken fs) (all_broken gs)

  turned : (f : Found) (fs : List Found) → all_broken (reverse (f ∷ fs))
      ≡ all_broken (reverse fs) ++ (f.broken ++ [])
  turned f fs = ap all_broken (reverse-append (f ∷ []) fs) ∙ all_append (reverse fs) (f ∷ [])

  turned_unbroken : (vs : List Raw) → all_broken (reverse (map (found_of s) vs)) ≡ []
      → EachUnbroken vs
  turned_unbroken [] e = tt
  turned_unbroken (v ∷ vs) e =
      let f = found_of s v in
      let fs = map (found_of s) vs in
      let a = sym (turned f fs) ∙ e in (
        front_nil f.broken [] (back_nil (all_broken (reverse fs)) (f.broken ++ []) a),
        turned_unbroken vs (front_nil (all_broken (reverse fs)) (f.broken ++ []) a),
      )

  pub parts_unbroken : (q : Production) (vs : List Raw) → broken_of s (node q vs) ≡ []
      → EachUnbroken vs
  parts_unbroken q vs e =
      go (is_chain q)
      (front_nil (parts_broken s q (map (found_of s) vs)) _ (sym (broken_node q vs) ∙ e))
    where
      go : (b : Bool) → cond b (all_broken (reverse (map (found_of s) vs)))
          (steps_broken s q [] (map (found_of s) vs)) ≡ [] → EachUnbroken vs
      go true h = turned_unbroken vs h
      go false h = steps_unbroken q [] vs h

  pub end_unbroken : (q : Production) (vs : List Raw) → is_chain q ≡ false
      → broken_of s (node q vs) ≡ [] → end s q (map (value_of s) vs) ≡ []
  end_unbroken q vs c e =
      let fs = map (found_of s) vs in
      let a : end s q (parts_values q fs) ≡ [] =
      back_nil (parts_broken s q fs) (end s q (parts_values q fs)) (sym (broken_node q vs) ∙ e) in
      let b : end s q (values fs) ≡ [] =
      subst (λ (b : Bool). end s q (cond b (reverse (values fs)) (values fs)) ≡ []) c a in
      subst (λ (ms : List Meant). end s q ms ≡ []) (values_are vs) b
