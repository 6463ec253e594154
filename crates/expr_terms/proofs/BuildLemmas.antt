-- Values of productions whose parts stand in a Vec.
use Rattle.std.proofs.Common.{true, false, ◌++◌, ◌≡◌, ◌≢◌, List, [], ◌∷◌, Option, Some, None, is_some, refl, sym, ◌∙◌, ap, length, arith, length-append}
use Rattle.expr_terms.specs.declared.raws.Raw.TheViews.{out-Raw}
use Rattle.expr_terms.specs.declared.raws.Raw.TheOpen.{Raw-F, Leaf, Node}
use Rattle.expr_terms.specs.Productions.{Production, parens, else_expr, if_expr, passes}
use Rattle.expr_terms.specs.Raws.{Raw, node, only_parens, as_chain, only_chain, as_inner_chain, only_inner, as_last, as_parts, as_else, chain_or, in_chain, build_parens, build_else, build_chain, build_plain}
use Rattle.xt_names.proofs.BoolLemmas.{never}

longer : (xs : List Raw) (x v : Raw) → length ((x ∷ xs) ++ v ∷ []) ≡ 1 → ⊥
longer xs x v e = omega (arith, length-append (x ∷ xs) (v ∷ []))

pub only_chain-many : (vs : List Raw) → length vs ≢ 1 → only_chain vs ≡ None
only_chain-many [] h = refl
only_chain-many (v ∷ []) h = absurd (h refl)
only_chain-many (v ∷ w ∷ vs) h = refl

pub only_chain-one : (vs xs : List Raw) (v : Raw) → length vs ≡ 1 → vs ≡ xs ++ v ∷ [] → only_chain vs ≡ as_chain (out-Raw v)
only_chain-one vs [] v l e = rw e refl
only_chain-one vs (x ∷ xs) v l e = absurd (longer xs x v (sym (ap length e) ∙ l))

pub build_parens-kept : (vs : List Raw) → only_parens vs ≡ false → build_parens vs ≡ node parens vs
build_parens-kept [] e = refl
build_parens-kept (v ∷ []) e = rw e refl
build_parens-kept (v ∷ w ∷ vs) e = refl

pub build_parens-only : (vs xs : List Raw) (v : Raw) → only_parens vs ≡ true → vs ≡ xs ++ v ∷ [] → build_parens vs ≡ v
build_parens-only [] [] v e s = never e
build_parens-only [] (x ∷ xs) v e s = never e
build_parens-only (u ∷ []) [] v e s = rw e (head_same s)
  where
    head_same : u ∷ [] ≡ v ∷ [] → u ≡ v
    head_same s = cc
build_parens-only (u ∷ []) (x ∷ xs) v e s = absurd (longer xs x v (sym (ap length s)))
build_parens-only (u ∷ w ∷ vs) xs v e s = never e

pub build_else-kept : (vs : List Raw) → only_inner vs ≡ false → build_else vs ≡ node else_expr vs
build_else-kept [] e = refl
build_else-kept (v ∷ []) e = go (as_inner_chain (out-Raw v)) e
  where
    go : (o : Option (List Raw)) → is_some o ≡ false → chain_or o v ≡ node else_expr (v ∷ [])
    go None e = refl
    go (Some ws) e = never (sym e)
build_else-kept (v ∷ w ∷ vs) e = refl

pub build_else-only : (vs xs ws : List Raw) (v : Raw) → only_inner vs ≡ true → vs ≡ xs ++ v ∷ [] → as_inner_chain (out-Raw v) ≡ Some ws → build_else vs ≡ node else_expr ws
build_else-only [] xs ws v e s c = never e
build_else-only (u ∷ []) [] ws v e s c =
    let same : u ≡ v = cc in
    rw (same, c) refl
build_else-only (u ∷ []) (x ∷ xs) ws v e s c = absurd (longer xs x v (sym (ap length s)))
build_else-only (u ∷ w ∷ vs) xs ws v e s c = never e

pub only_inner-one : (vs xs : List Raw) (v : Raw) → only_inner vs ≡ true → vs ≡ xs ++ v ∷ [] → as_inner_chain (out-Raw v) ≡ None → ⊥
only_inner-one [] xs v e s c = never e
only_inner-one (u ∷ []) [] v e s c =
    let same : u ≡ v = cc in
    let f : is_some (as_inner_chain (out-Raw v)) ≡ true = rw same at e in
    never (rw c at f)
only_inner-one (u ∷ []) (x ∷ xs) v e s c = longer xs x v (sym (ap length s))
only_inner-one (u ∷ w ∷ vs) xs v e s c = never e

pub build_chain-many : (vs : List Raw) → length vs ≢ 3 → build_chain vs ≡ node if_expr vs
build_chain-many [] h = refl
build_chain-many (v ∷ []) h = refl
build_chain-many (v ∷ w ∷ []) h = refl
build_chain-many (v ∷ w ∷ x ∷ []) h = absurd (h refl)
build_chain-many (v ∷ w ∷ x ∷ y ∷ vs) h = refl

pub build_chain-three : (vs ys zs xs : List Raw) (test arm last : Raw) → length vs ≡ 3 → vs ≡ ys ++ last ∷ [] → ys ≡ zs ++ arm ∷ [] → zs ≡ xs ++ test ∷ [] → build_chain vs ≡ in_chain test arm last
build_chain-three vs ys zs [] test arm last l a b c = rw (a, b, c) refl
build_chain-three vs ys zs (x ∷ xs) test arm last l a b c =
    absurd (omega (arith, length-append (x ∷ xs) (test ∷ []), length-append zs (arm ∷ []), length-append ys (last ∷ []), ap length a, ap length b, ap length c))

pub build_plain-many : (p : Production) (vs : List Raw) → length vs ≢ 1 → build_plain p vs ≡ node p vs
build_plain-many p [] h = refl
build_plain-many p (v ∷ []) h = absurd (h refl)
build_plain-many p (v ∷ w ∷ vs) h = refl

pub build_plain-kept : (p : Production) (vs : List Raw) → passes p ≡ false → build_plain p vs ≡ node p vs
build_plain-kept p [] h = refl
build_plain-kept p (v ∷ []) h = rw h refl
build_plain-kept p (v ∷ w ∷ vs) h = refl

pub build_plain-one : (p : Production) (vs xs : List Raw) (v : Raw) → passes p ≡ true → length vs ≡ 1 → vs ≡ xs ++ v ∷ [] → build_plain p vs ≡ v
build_plain-one p vs [] v h l e = rw (e, h) refl
build_plain-one p vs (x ∷ xs) v h l e = absurd (longer xs x v (sym (ap length e) ∙ l))

pub ruleset builds = (only_chain-many, only_chain-one, build_parens-kept, build_parens-only, build_else-kept, build_else-only, only_inner-one, build_chain-many, build_chain-three, build_plain-many, build_plain-kept, build_plain-one)

last-own : (v : Raw) (f : Raw-F Raw) → as_last f ≡ true → as_else v f ≡ as_parts f
last-own v (Leaf t) e = never e
last-own v (Node p vs) e = rw e refl

last-other : (v : Raw) (f : Raw-F Raw) → as_last f ≡ false → as_else v f ≡ v ∷ []
last-other v (Leaf t) e = refl
last-other v (Node p vs) e = rw e refl

pub else-own : (v : Raw) → as_last (out-Raw v) ≡ true → as_else v (out-Raw v) ≡ as_parts (out-Raw v)
else-own v e = last-own v (out-Raw v) e

pub else-other : (v : Raw) → as_last (out-Raw v) ≡ false → as_else v (out-Raw v) ≡ v ∷ []
else-other v e = last-other v (out-Raw v) e

pub ruleset lasts = (else-own, else-other)
