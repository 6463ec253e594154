-- How answers follow one another.
use Rattle.std.specs.Prelude.{Bool, Result, reverse}
use Rattle.std.proofs.Common.{◌≡◌, ℕ, List, [], ◌∷◌, ◌++◌, ◌+◌, ◌==◌, ◌<◌, ◌≤◌, suc, length, ◌-◌, map, drop, take, get_or, add-one, drop-cons, append_assoc, length-append, length-drop, refl, ap, sym, subst, ◌∙◌, rules, arith}
use Rattle.std.proofs.Math.Dec.{eqb-suc-zero}
use Rattle.std.proofs.lemmas.List.{drop_all, append-nil, take_all, take_more, map-append, reverse-append, length-map}
use Rattle.xt_names.specs.declared.codes.Code.{Code}
use Rattle.expr_keys.specs.declared.productions.Production.{Production}
use Rattle.expr_terms.specs.declared.raws.Raw.{Raw}
use Rattle.expr_terms.specs.declared.raws.Raw.TheVariants.{Node as node, outs-Node}
use Rattle.expr_terms.specs.declared.raws.Raw.TheOpen.{Node}
use Rattle.expr_terms.specs.declared.raws.Raw.TheFolds.{map-Raw, fold_out-Raw}
use Rattle.expr_terms.specs.declared.raws.Raw.TheViews.{out-Raw}
use Rattle.expr_primaries.specs.ExprRules.declared.expr_meant.meant.Meant.{Meant}
use Rattle.expr_primaries.specs.ExprNames.declared.fault.ResolveFault.{ResolveFault}
use Rattle.expr_primaries.specs.ExprNames.declared.fault.ResolveFault.TheVariants.{Static, Memory}
use Rattle.expr_primaries.specs.ExprNames.Answers.{IsFaultOf, Answers}
use Rattle.expr_resolve.specs.declared.setting.Setting.{Setting}
use Rattle.expr_resolve.specs.Tables.{act, end}
use Rattle.expr_resolve.specs.Folds.{Found, found_layer, found_of, value_of, broken_of, values, step_broken, steps_broken, all_broken, parts_broken, parts_values}
use Rattle.xt_names.specs.Lists.{is_none}

-- a fault of the first part is one of the whole
pub fault_first : (f : ResolveFault) (xs ys : List Code) → IsFaultOf f xs → IsFaultOf f (xs ++ ys)
fault_first (Static c) [] ys h = search rules
fault_first (Static c) (x ∷ xs) ys h = h
fault_first (Memory e) xs ys h = tt

-- after some turns of a loop, none of the parts so far broke a rule, and `made` is what they mean
pub record Made (s : Setting) (p : Production) (xs : List Raw) (made : List Meant) (i : ℕ) : Type 0 where
  pub counted : length made ≡ i
  pub unbroken : steps_broken s p made (map (found_of s) (drop i xs)) ≡ steps_broken s p [] (map (found_of s) xs)
  pub meant : made ++ values (map (found_of s) (drop i xs)) ≡ values (map (found_of s) xs)

pub made_first : (s : Setting) (p : Production) (xs : List Raw) (made : List Meant) → made ≡ [] → Made s p xs made 0
made_first s p xs made e = record { counted = rw e refl; unbroken = rw e refl; meant = rw e refl }

-- nothing is left after the last one
none_is_zero : {A : Type 0} (ys : List A) → is_none ys ≡ (length ys == 0)
none_is_zero [] = refl
none_is_zero (y ∷ ys) = sym (eqb-suc-zero (length ys))

zero_left : (m i : ℕ) → i < m → (m - suc i == 0) ≡ (i + 1 == m)
zero_left m i lt = grind arith

none_left : (s : Setting) (xs : List Raw) (i : ℕ) → i < length xs → is_none (map (found_of s) (drop (suc i) xs)) ≡ (i + 1 == length xs)
none_left s xs i lt =
    let e : length (map (found_of s) (drop (suc i) xs)) ≡ length xs - suc i = length-map (drop (suc i) xs) (found_of s) ∙ length-drop (suc i) xs in
    none_is_zero (map (found_of s) (drop (suc i) xs)) ∙ ap (λ n. n == 0) e ∙ zero_left (length xs) i lt

-- what is left is the part, and what comes after it
left_here : (s : Setting) (p : Production) (xs : List Raw) (made : List Meant) (i : ℕ) (x d : Raw) (last : Bool) → Made s p xs made i → i < length xs → x ≡ get_or xs i d → last ≡ (length made + 1 == length xs) → step_broken s p last made (found_of s x) ++ steps_broken s p (made ++ (found_of s x).value ∷ []) (map (found_of s) (drop (suc i) xs)) ≡ steps_broken s p [] (map (found_of s) xs)
left_here s p xs made i x d last inv lt is l =
    let at : drop i xs ≡ x ∷ drop (suc i) xs = drop-cons xs i d lt ∙ ap (λ y. y ∷ drop (suc i) xs) (sym is) in
    let e : last ≡ is_none (map (found_of s) (drop (suc i) xs)) = l ∙ ap (λ n. n + 1 == length xs) inv.counted ∙ sym (none_left s xs i lt) in
    ap (λ b. step_broken s p b made (found_of s x) ++ steps_broken s p (made ++ (found_of s x).value ∷ []) (map (found_of s) (drop (suc i) xs))) e ∙ ap (λ ys. steps_broken s p made (map (found_of s) ys)) (sym at) ∙ inv.unbroken

pub made_step : (s : Setting) (p : Production) (xs : List Raw) (made more : List Meant) (i : ℕ) (x d : Raw) (last : Bool) → Made s p xs made i → i < length xs → x ≡ get_or xs i d → last ≡ (length made + 1 == length xs) → step_broken s p last made (found_of s x) ≡ [] → more ≡ made ++ (found_of s x).value ∷ [] → Made s p xs more (i + 1)
made_step s p xs made more i x d last inv lt is l b n =
    let at : drop i xs ≡ x ∷ drop (suc i) xs = drop-cons xs i d lt ∙ ap (λ y. y ∷ drop (suc i) xs) (sym is) in
    let r : made ++ (found_of s x).value ∷ values (map (found_of s) (drop (suc i) xs)) ≡ values (map (found_of s) xs) = ap (λ ys. made ++ values (map (found_of s) ys)) (sym at) ∙ inv.meant in
    let q : steps_broken s p (made ++ (found_of s x).value ∷ []) (map (found_of s) (drop (suc i) xs)) ≡ steps_broken s p [] (map (found_of s) xs) = ap (λ ys. ys ++ steps_broken s p (made ++ (found_of s x).value ∷ []) (map (found_of s) (drop (suc i) xs))) (sym b) ∙ left_here s p xs made i x d last inv lt is l in
    record {
      counted = ap length n ∙ length-append made ((found_of s x).value ∷ []) ∙ ap (λ k. k + 1) inv.counted;
      unbroken = rw (add-one, n) q;
      meant = rw (add-one, n) (append_assoc made ((found_of s x).value ∷ []) (values (map (found_of s) (drop (suc i) xs))) ∙ r);
    }

pub made_exit : (s : Setting) (p : Production) (xs : List Raw) (made : List Meant) (i : ℕ) (x d : Raw) (last : Bool) (f : ResolveFault) → Made s p xs made i → i < length xs → x ≡ get_or xs i d → last ≡ (length made + 1 == length xs) → IsFaultOf f (step_broken s p last made (found_of s x)) → IsFaultOf f (steps_broken s p [] (map (found_of s) xs))
made_exit s p xs made i x d last f inv lt is l h =
    rw (← left_here s p xs made i x d last inv lt is l) (fault_first f (step_broken s p last made (found_of s x)) (steps_broken s p (made ++ (found_of s x).value ∷ []) (map (found_of s) (drop (suc i) xs))) h)

pub made_none : (s : Setting) (p : Production) (xs : List Raw) (made : List Meant) (i : ℕ) → Made s p xs made i → length xs ≤ i → steps_broken s p [] (map (found_of s) xs) ≡ []
made_none s p xs made i inv le = sym inv.unbroken ∙ ap (λ ys. steps_broken s p made (map (found_of s) ys)) (drop_all i xs le)

pub made_all : (s : Setting) (p : Production) (xs : List Raw) (made : List Meant) (i : ℕ) → Made s p xs made i → length xs ≤ i → made ≡ values (map (found_of s) xs)
made_all s p xs made i inv le = sym (append-nil made) ∙ ap (λ ys. made ++ values (map (found_of s) ys)) (sym (drop_all i xs le)) ∙ inv.meant

-- the same where the rules of a later part come first: the answer is that to the parts so far
abbrev pub Turned : Setting → List Raw → Result (List Meant) ResolveFault → ℕ → Type 0
Turned s xs made i = Answers made (all_broken (reverse (map (found_of s) (take i xs)))) (values (map (found_of s) (take i xs)))

one_more : (s : Setting) (xs : List Raw) (i : ℕ) (x d : Raw) → i < length xs → x ≡ get_or xs i d → map (found_of s) (take (i + 1) xs) ≡ map (found_of s) (take i xs) ++ found_of s x ∷ []
one_more s xs i x d lt is = ap (map (found_of s)) (take_more xs i d lt ∙ ap (λ y. take i xs ++ y ∷ []) (sym is)) ∙ map-append (found_of s) (take i xs) (x ∷ [])

pub turned_step : (s : Setting) (xs : List Raw) (i : ℕ) (x d : Raw) (more : Result (List Meant) ResolveFault) → i < length xs → x ≡ get_or xs i d → Answers more ((found_of s x).broken ++ all_broken (reverse (map (found_of s) (take i xs)))) (values (map (found_of s) (take i xs)) ++ (found_of s x).value ∷ []) → Turned s xs more (i + 1)
turned_step s xs i x d more lt is h =
    let e = one_more s xs i x d lt is in
    let b : all_broken (reverse (map (found_of s) (take (i + 1) xs))) ≡ (found_of s x).broken ++ all_broken (reverse (map (found_of s) (take i xs))) = ap (λ fs. all_broken (reverse fs)) e ∙ ap all_broken (reverse-append (map (found_of s) (take i xs)) (found_of s x ∷ [])) in
    let v : values (map (found_of s) (take (i + 1) xs)) ≡ values (map (found_of s) (take i xs)) ++ (found_of s x).value ∷ [] = ap values e ∙ map-append (λ (f : Found). f.value) (map (found_of s) (take i xs)) (found_of s x ∷ []) in
    subst (λ (codes : List Code). Answers more codes (values (map (found_of s) (take (i + 1) xs)))) (sym b) (subst (λ (ms : List Meant). Answers more ((found_of s x).broken ++ all_broken (reverse (map (found_of s) (take i xs)))) ms) (sym v) h)

pub turned_all : (s : Setting) (xs : List Raw) (i : ℕ) (made : Result (List Meant) ResolveFault) → Turned s xs made i → length xs ≤ i → Answers made (all_broken (reverse (map (found_of s) xs))) (values (map (found_of s) xs))
turned_all s xs i made h le = subst (λ (ys : List Raw). Answers made (all_broken (reverse (map (found_of s) ys))) (values (map (found_of s) ys))) (take_all i xs le) h

found-out : (s : Setting) (raw : Raw) → found_of s raw ≡ found_layer s (map-Raw Raw Found (found_of s) (out-Raw raw))
found-out s raw = fold_out-Raw _ _ raw

-- what a node means, and the rules that it breaks
pub found-node : (s : Setting) (p : Production) (raws : List Raw) → found_of s (node p raws) ≡ found_layer s (Node p (map (found_of s) raws))
found-node s p raws = found-out s (node p raws) ∙ ap (λ f. found_layer s (map-Raw Raw Found (found_of s) f)) (outs-Node p raws)

pub at_node : (s : Setting) (p : Production) (raws : List Raw) (raw : Raw) (result : Result Meant ResolveFault) → raw ≡ node p raws → Answers result (parts_broken s p (map (found_of s) raws) ++ end s p (parts_values p (map (found_of s) raws))) (act s p (parts_values p (map (found_of s) raws))) → Answers result (broken_of s raw) (value_of s raw)
at_node s p raws raw result is h =
    let e : found_of s raw ≡ found_layer s (Node p (map (found_of s) raws)) = ap (found_of s) is ∙ found-node s p raws in
    subst (λ (f : Found). Answers result f.broken f.value) (sym e) h
