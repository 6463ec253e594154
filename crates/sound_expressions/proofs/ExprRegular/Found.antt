-- A production whose parts are there breaks no rule exactly where none of them does.
use Rattle.std.proofs.Common.{◌≡◌, List, [], ◌∷◌, ◌++◌, map, reverse, Bool, true, false, cond, ◌&&◌}
use Rattle.std.proofs.Common.{refl, sym, ◌∙◌, ap, subst}
use Rattle.std.proofs.lemmas.Bool.{and_parts, and_from}
use Rattle.std.proofs.lemmas.List.{reverse-append}
use Rattle.std.specs.List.{list_all}
use Rattle.xt_names.specs.declared.codes.Code.{Code}
use Rattle.expr_keys.specs.declared.tokens.Token.{Token}
use Rattle.expr_keys.specs.declared.productions.Production.{Production}
use Rattle.expr_keys.specs.declared.productions.Production.TheVariants as production
use Rattle.expr_terms.specs.declared.raws.Raw.{Raw}
use Rattle.expr_terms.specs.declared.raws.Raw.TheVariants.{Leaf as leaf, Node as node, rolls-Leaf}
use Rattle.expr_terms.specs.declared.raws.Raw.TheVariants.{rolls-Node}
use Rattle.expr_terms.specs.declared.raws.Raw.TheViews.{roll-Raw}
use Rattle.expr_terms.specs.declared.raws.Raw.TheFolds.{map-Raw, fold-roll-Raw}
use Rattle.expr_terms.specs.declared.raws.Raw.TheOpen.{Raw-F, Leaf, Node}
use Rattle.expr_rules.specs.declared.expr_meant.meant.Meant.{Meant}
use Rattle.expr_rules.specs.declared.expr_meant.meant.Meant.TheVariants as meant
use Rattle.expr_rules.specs.Rules.{own_broken, end_broken}
use Rattle.expr_resolve.specs.declared.setting.Setting.{Setting}
use Rattle.expr_resolve.specs.Tables.{act, own, end, is_chain, is_tag, before_last}
use Rattle.expr_resolve.specs.Folds.{Found, values, checked, step_broken, steps_broken}
use Rattle.expr_resolve.specs.Folds.{all_broken, parts_broken, parts_values, found_layer, found_of}
use Rattle.expr_resolve.specs.Folds.{value_of, broken_of}
use Rattle.expr_rules.specs.declared.expr_shapes.shapes.Shape.{Shape}
use Rattle.expr_rules.specs.ExprShapes.Shapes.{is_good, own_shape, tag_in, shape_layer, shape_of, is_shaped}
use Rattle.sound_expressions.proofs.ExprRegular.Claims.{Kept, EachKept, OwnKept}
use Rattle.xt_names.proofs.ListLemmas.{front_nil, back_nil}
use Rattle.xt_names.specs.Lists.{is_none}

both_nil : {A : Type 0} (xs ys : List A) → xs ≡ [] → ys ≡ [] → xs ++ ys ≡ []
both_nil xs ys e f = rw (e, f) refl

-- direct elements
pub shape-roll : (x : Raw-F Raw) → shape_of (roll-Raw x) ≡ shape_layer (map-Raw Raw Shape shape_of x)
shape-roll x = fold-roll-Raw _ _ x

pub shape_leaf : (t : Token) → shape_of (leaf t) ≡ record { good = true; tag = tag_in t }
shape_leaf t = ap shape_of (sym (rolls-Leaf t)) ∙ shape-roll (Leaf t)

pub shape_node : (p : Production) (vs : List Raw)
    → is_shaped (node p vs) ≡ (list_all is_good (map shape_of vs) && own_shape p (map shape_of vs))
shape_node p vs = ap (λ v. is_shaped v) (sym (rolls-Node p vs))
    ∙ ap (λ x. x.good) (shape-roll (Node p vs))

parts_shaped : (p : Production) (vs : List Raw) → is_shaped (node p vs) ≡ true
    → list_all is_good (map shape_of vs) ≡ true
parts_shaped p vs e =
    (and_parts (list_all is_good (map shape_of vs)) (own_shape p (map shape_of vs))
    (sym (shape_node p vs) ∙ e)).0

pub own_shaped : (p : Production) (vs : List Raw) → is_shaped (node p vs) ≡ true
    → own_shape p (map shape_of vs) ≡ true
own_shaped p vs e =
    (and_parts (list_all is_good (map shape_of vs)) (own_shape p (map shape_of vs))
    (sym (shape_node p vs) ∙ e)).1

module _ (s : Setting) where
  found-roll : (x : Raw-F Raw) → found_of s (roll-Raw x)
      ≡ found_layer s (map-Raw Raw Found (found_of s) x)
  found-roll x = fold-roll-Raw _ _ x

  pub value_leaf : (t : Token) → value_of s (leaf t) ≡ meant.Token t
  value_leaf t = ap (λ v. value_of s v) (sym (rolls-Leaf t))
      ∙ ap (λ f. f.value) (found-roll (Leaf t))

  values_are : (vs : List Raw) → values (map (found_of s) vs) ≡ map (value_of s) vs
  values_are [] = refl
  values_are (v ∷ vs) = ap (λ ms. value_of s v ∷ ms) (values_are vs)

  pub value_node : (p : Production) (vs : List Raw) → is_chain p ≡ false
      → value_of s (node p vs) ≡ act s p (map (value_of s) vs)
  value_node p vs c = ap (λ v. value_of s v) (sym (rolls-Node p vs))
      ∙ ap (λ f. f.value) (found-roll (Node p vs))
      ∙ ap (λ b. act s p (cond b (reverse (values (map (found_of s) vs))) (values (map (found_of s) vs)))) c
      ∙ ap (λ ms. act s p ms) (values_are vs)

  pub value_chain : (vs : List Raw) → value_of s (node production.IfExpr vs)
      ≡ act s production.IfExpr (reverse (map (value_of s) vs))
  unfolding is_chain
  value_chain vs = ap (λ v. value_of s v) (sym (rolls-Node production.IfExpr vs))
      ∙ ap (λ f. f.value) (found-roll (Node production.IfExpr vs))
      ∙ ap (λ ms. act s production.IfExpr (reverse ms)) (values_are vs)

  broken_node : (p : Production) (vs : List Raw) → broken_of s (node p vs)
      ≡ parts_broken s p (map (found_of s) vs) ++ end s p (parts_values p (map (found_of s) vs))
  broken_node p vs = ap (λ v. broken_of s v) (sym (rolls-Node p vs))
      ∙ ap (λ f. f.broken) (found-roll (Node p vs))

  -- the parts in reading order
  seen_some : (ms : List Meant) (m : Meant) → is_none (ms ++ m ∷ []) ≡ false
  seen_some [] m = refl
  seen_some (n ∷ ms) m = refl

  steps_kept : (p : Production) (seen : List Meant) (vs : List Raw)
      → steps_broken s p seen (map (found_of s) vs) ≡ []
      → list_all is_good (map shape_of vs) ≡ true → OwnKept s p (is_none seen) vs
  steps_kept p seen [] e h = tt
  steps_kept p seen (v ∷ vs) e h =
      let f = found_of s v in
      let last = is_none (map (found_of s) vs) in
      let more = steps_broken s p (seen ++ f.value ∷ []) (map (found_of s) vs) in
      let a = front_nil (step_broken s p last seen f) more e in
      let b = back_nil (step_broken s p last seen f) more e in
      let c = back_nil (before_last (is_tag p) last seen) (checked s p (is_none seen) f) a in
      let i = and_parts (is_shaped v) (list_all is_good (map shape_of vs)) h in (
        record {
          unbroken = front_nil f.broken (own s p (is_none seen) f.value) c;
          shaped = i.0;
        },
        back_nil f.broken (own s p (is_none seen) f.value) c,
        subst (λ (x : Bool). OwnKept s p x vs) (seen_some seen f.value)
            (steps_kept p (seen ++ f.value ∷ []) vs b i.1),
      )

  pub kept_parts : (p : Production) (vs : List Raw) → is_chain p ≡ false → Kept s (node p vs)
      → OwnKept s p true vs
  kept_parts p vs c k =
      let fs = map (found_of s) vs in
      let a : parts_broken s p fs ≡ [] =
      front_nil (parts_broken s p fs) (end s p (parts_values p fs))
      (sym (broken_node p vs) ∙ k.unbroken) in
      steps_kept p [] vs
      (subst (λ (b : Bool). cond b (all_broken (reverse fs)) (steps_broken s p [] fs) ≡ []) c a)
      (parts_shaped p vs k.shaped)

  pub kept_end : (p : Production) (vs : List Raw) → is_chain p ≡ false → Kept s (node p vs)
      → end s p (map (value_of s) vs) ≡ []
  kept_end p vs c k =
      let fs = map (found_of s) vs in
      let a : end s p (parts_values p fs) ≡ [] =
      back_nil (parts_broken s p fs) (end s p (parts_values p fs))
      (sym (broken_node p vs) ∙ k.unbroken) in
      let b : end s p (values fs) ≡ [] =
      subst (λ (b : Bool). end s p (cond b (reverse (values fs)) (values fs)) ≡ []) c a in
      subst (λ (ms : List Meant). end s p ms ≡ []) (values_are vs) b

  pub each_own : (p : Production) (b : Bool) (vs : List Raw) → OwnKept s p b vs → EachKept s vs
  each_own p b [] k = tt
  each_own p b (v ∷ vs) k = (k.0, each_own p false vs k.2)

  -- the parts of a chain, in reverse order
  all_append : (fs gs : List Found) → all_broken (fs ++ gs) ≡ all_broken fs ++ all_broken gs
  all_append [] gs = refl
  all_append (f ∷ fs) gs = ap (λ cs. f.broken ++ cs) (all_append fs gs)
      ∙ assoc f.broken (all_broken fs) (all_broken gs)
    where
      assoc : (xs ys zs : List Code) → xs ++ (ys ++ zs) ≡ (xs ++ ys) ++ zs
      assoc [] ys zs = refl
      assoc (x ∷ xs) ys zs = ap (λ cs. x ∷ cs) (assoc xs ys zs)

  turned : (f : Found) (fs : List Found) → all_broken (reverse (f ∷ fs))
      ≡ all_broken (reverse fs) ++ (f.broken ++ [])
  turned f fs = ap all_broken (reverse-append (f ∷ []) fs) ∙ all_append (reverse fs) (f ∷ [])

  turned_each : (vs : List Raw) → all_broken (reverse (map (found_of s) vs)) ≡ []
      → list_all is_good (map shape_of vs) ≡ true → EachKept s vs
  turned_each [] e h = tt
  turned_each (v ∷ vs) e h =
      let f = found_of s v in
      let fs = map (found_of s) vs in
      let a = sym (turned f fs) ∙ e in
      let b = back_nil (all_broken (reverse fs)) (f.broken ++ []) a in
      let i = and_parts (is_shaped v) (list_all is_good (map shape_of vs)) h in (
        record { unbroken = front_nil f.broken [] b; shaped = i.0 },
        turned_each vs (front_nil (all_broken (reverse fs)) (f.broken ++ []) a) i.1,
      )

  each_turned : (vs : List Raw) → EachKept s vs → all_broken (reverse (map (found_of s) vs)) ≡ []
  each_turned [] k = refl
  each_turned (v ∷ vs) k =
      turned (found_of s v) (map (found_of s) vs)
      ∙ both_nil (all_broken (reverse (map (found_of s) vs))) (broken_of s v ++ [])
      (each_turned vs k.1) (both_nil (broken_of s v) [] k.0.unbroken refl)

  each_shaped : (vs : List Raw) → EachKept s vs → list_all is_good (map shape_of vs) ≡ true
  each_shaped [] k = refl
  each_shaped (v ∷ vs) k = and_from (is_shaped v) _ k.0.shaped (each_shaped vs k.1)

  pub chain_each : (vs : List Raw) → Kept s (node production.IfExpr vs) → EachKept s vs
  unfolding is_chain
  chain_each vs k =
      turned_each vs (front_nil (all_broken (reverse (map (found_of s) vs))) _
      (sym (broken_node production.IfExpr vs) ∙ k.unbroken))
      (parts_shaped production.IfExpr vs k.shaped)

  pub each_chain : (vs : List Raw) → EachKept s vs → Kept s (node production.IfExpr vs)
  unfolding is_chain end_broken own_shape
  each_chain vs k = record {
    unbroken = broken_node production.IfExpr vs
        ∙ both_nil (all_broken (reverse (map (found_of s) vs))) [] (each_turned vs k) refl;
    shaped = shape_node production.IfExpr vs
        ∙ and_from (list_all is_good (map shape_of vs)) true (each_shaped vs k) refl;
  }

  -- parentheses break no rule of their own
  pub parens_kept : (v : Raw) → Kept s v → Kept s (node production.Parens (v ∷ []))
  unfolding is_chain end_broken own_shape own_broken is_tag before_last
  parens_kept v k = record {
    unbroken = broken_node production.Parens (v ∷ []) ∙ rw k.unbroken refl;
    shaped = shape_node production.Parens (v ∷ []) ∙ rw k.shaped refl;
  }
