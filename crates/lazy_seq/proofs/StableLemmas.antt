-- There is one stable order.
use Rattle.std.proofs.Common.{◌≡◌, ℕ, suc, ◌<◌, ◌≤◌, List, [], ◌∷◌, length, get_or, refl, ap, sym}
use Rattle.std.proofs.Common.{◌∙◌, subst, arith}
use Rattle.std.specs.Prelude.{Bool, true, false, not, ◌&&◌, cond, filter, if◌then◌else◌}
use Rattle.std.specs.Cmp.{IsStrictWeakOrder}
use Rattle.std.specs.List.Sorted.{IsSortedBy, IsStableBy, ties}
use Rattle.std.proofs.lemmas.List.Sorted.{sorted_far}
use Rattle.xt_names.specs.Lists.{put_in, stable_order}

module _ {X : Type 0} (below : X → X → Bool) where
  -- no element of the list is below x
  abbrev NoneBelow : X → List X → Type 0
  NoneBelow x [] = Unit {0}
  NoneBelow x (y ∷ ys) = (below y x ≡ false) × NoneBelow x ys

  abbrev Ascends : List X → Type 0
  Ascends [] = Unit {0}
  Ascends (x ∷ xs) = NoneBelow x xs × Ascends xs

  none_below_of : (x : X) (xs : List X)
      → ((k : ℕ) → k < length xs → below (get_or xs k x) x ≡ false) → NoneBelow x xs
  none_below_of x [] h = tt
  none_below_of x (y ∷ ys) h =
      (h 0 (omega arith), none_below_of x ys (λ k p. h (suc k) (omega arith)))

  ascends_of : (xs : List X)
      → ((i j : ℕ) (d : X) → i ≤ j → j < length xs → below (get_or xs j d) (get_or xs i d) ≡ false)
      → Ascends xs
  ascends_of [] h = tt
  ascends_of (x ∷ xs) h = (
    none_below_of x xs (λ k p. h 0 (suc k) x (omega arith) (omega arith)),
    ascends_of xs (λ i j d p q. h (suc i) (suc j) d (omega arith) (omega arith)),
  )

  -- what a filter keeps of the list is not below x
  kept_not_below : (test : X → Bool) (x y : X) (xs rest : List X) → NoneBelow x xs
      → filter test xs ≡ y ∷ rest → below y x ≡ false
  kept_not_below test x y [] rest h e = absurd cc
  kept_not_below test x y (z ∷ zs) rest h e = by (test z) (kept_not_below test x y zs rest h.1) e
    where
      by : (b : Bool) → (filter test zs ≡ y ∷ rest → below y x ≡ false)
          → cond b (z ∷ filter test zs) (filter test zs) ≡ y ∷ rest → below y x ≡ false
      by true more e = let same : z ≡ y = cc in subst (λ w. below w x ≡ false) same h.0
      by false more e = more e

  same_tail : (b : Bool) (x : X) (xs ys : List X) → cond b (x ∷ xs) xs ≡ cond b (x ∷ ys) ys
      → xs ≡ ys
  same_tail true x xs ys e = cc
  same_tail false x xs ys e = e

  module _ (o : IsStrictWeakOrder below) where
    not_self_by : (x : X) (b : Bool) → below x x ≡ b → below x x ≡ false
    not_self_by x true e = o.one_way x x e
    not_self_by x false e = e

    not_self : (x : X) → below x x ≡ false
    not_self x = not_self_by x (below x x) refl

    tied : (x y : X) → below x y ≡ false → below y x ≡ false → ties below x y ≡ true
    tied x y h g = rw (h, g) refl

    self_tied : (x : X) → ties below x x ≡ true
    self_tied x = tied x x (not_self x) (not_self x)

    -- a list starts with x, and another list keeps the same of what ties with x
    first_kept : (x : X) (xs ys : List X) → filter (ties below x) (x ∷ xs) ≡ ys
        → ys ≡ x ∷ filter (ties below x) xs
    first_kept x xs ys e =
        sym e ∙ ap (λ b. cond b (x ∷ filter (ties below x) xs) (filter (ties below x) xs))
        (self_tied x)

    one_order : (xs ys : List X) → Ascends xs → Ascends ys
        → ((x : X) → filter (ties below x) xs ≡ filter (ties below x) ys) → xs ≡ ys
    one_order [] [] a b h = refl
    one_order [] (y ∷ ys) a b h = let e = first_kept y ys [] (sym (h y)) in absurd cc
    one_order (x ∷ xs) [] a b h = let e = first_kept x xs [] (h x) in absurd cc
    one_order (x ∷ xs) (y ∷ ys) a b h =
        let ex = first_kept x xs (filter (ties below x) (y ∷ ys)) (h x) in
        let ey = first_kept y ys (filter (ties below y) (x ∷ xs)) (sym (h y)) in
        let p : below x y ≡ false =
        kept_not_below (ties below x) y x (y ∷ ys) (filter (ties below x) xs) (not_self y, b.0)
        ex in
        let q : below y x ≡ false =
        kept_not_below (ties below y) x y (x ∷ xs) (filter (ties below y) ys) (not_self x, a.0)
        ey in
        let t : filter (ties below x) (y ∷ ys) ≡ y ∷ filter (ties below x) ys =
        ap (λ b. cond b (y ∷ filter (ties below x) ys) (filter (ties below x) ys))
        (tied x y p q) in
        let same : y ≡ x = cc in
        let tails : xs ≡ ys =
        one_order xs ys a.1 b.1
        (λ z. same_tail (ties below z x) x _ _
        (h z ∙ ap (λ w. filter (ties below z) (w ∷ ys)) same)) in
        cc

    -- the element that is put in
    put_none_if : (w : X) (b : Bool) (xs ys : List X) → NoneBelow w xs → NoneBelow w ys
        → NoneBelow w (if b then xs else ys)
    put_none_if w true xs ys h g = h
    put_none_if w false xs ys h g = g

    put_none : (w x : X) (ys : List X) → below x w ≡ false → NoneBelow w ys
        → NoneBelow w (put_in below x ys)
    put_none w x [] e h = (e, tt)
    put_none w x (y ∷ ys) e h =
        put_none_if w (below y x) (y ∷ put_in below x ys) (x ∷ y ∷ ys) (h.0, put_none w x ys e h.1)
        (e, h)

    lower_none : (x y : X) (ys : List X) → below y x ≡ false → NoneBelow y ys → NoneBelow x ys
    lower_none x y [] e h = tt
    lower_none x y (z ∷ zs) e h = (o.chain z y x h.0 e, lower_none x y zs e h.1)

    put_ascends : (x : X) (ys : List X) → Ascends ys → Ascends (put_in below x ys)
    put_ascends x [] a = (tt, tt)
    put_ascends x (y ∷ ys) a = by (below y x) refl (put_ascends x ys a.1)
      where
        by : (b : Bool) → below y x ≡ b → Ascends (put_in below x ys)
            → Ascends (if b then y ∷ put_in below x ys else x ∷ y ∷ ys)
        by true e more = (put_none y x ys (o.one_way y x e) a.0, more)
        by false e more = ((e, lower_none x y ys e a.0), a)

    order_ascends : (xs : List X) → Ascends (stable_order below xs)
    unfolding stable_order
    order_ascends [] = tt
    order_ascends (x ∷ xs) = put_ascends x (stable_order below xs) (order_ascends xs)

    -- one of two that do not tie with each other
    untied : (z x y : X) → below y x ≡ true → ties below z x ≡ true → ties below z y ≡ true → ⊥
    untied z x y e p q =
        let a : below z x ≡ false = first_not (below z x) (below x z) p in
        let b : below y z ≡ false = second_not (below z y) (below y z) q in
        let c : below y x ≡ false = o.chain y z x b a in
        absurd cc
      where
        first_not : (s t : Bool) → not s && not t ≡ true → s ≡ false
        first_not true t h = absurd cc
        first_not false t h = refl

        second_not : (s t : Bool) → not s && not t ≡ true → t ≡ false
        second_not true t h = absurd cc
        second_not false true h = absurd cc
        second_not false false h = refl

    put_stable : (x : X) (ys : List X) (z : X) → filter (ties below z) (put_in below x ys)
        ≡ filter (ties below z) (x ∷ ys)
    put_stable x [] z = refl
    put_stable x (y ∷ ys) z = by (below y x) refl (put_stable x ys z)
      where
        swapped : (s t : Bool) (l : List X) → (s ≡ true → t ≡ true → ⊥)
            → cond t (y ∷ cond s (x ∷ l) l) (cond s (x ∷ l) l)
            ≡ cond s (x ∷ cond t (y ∷ l) l) (cond t (y ∷ l) l)
        swapped true true l h = absurd (h refl refl)
        swapped true false l h = refl
        swapped false true l h = refl
        swapped false false l h = refl

        by : (b : Bool) → below y x ≡ b → filter (ties below z) (put_in below x ys)
            ≡ filter (ties below z) (x ∷ ys)
            → filter (ties below z) (if b then y ∷ put_in below x ys else x ∷ y ∷ ys)
            ≡ filter (ties below z) (x ∷ y ∷ ys)
        by true e more =
            ap (λ l. cond (ties below z y) (y ∷ l) l) more
            ∙ swapped (ties below z x) (ties below z y) (filter (ties below z) ys) (untied z x y e)
        by false e more = refl

    order_stable : (xs : List X) (z : X) → filter (ties below z) (stable_order below xs)
        ≡ filter (ties below z) xs
    unfolding stable_order
    order_stable [] z = refl
    order_stable (x ∷ xs) z = put_stable x (stable_order below xs) z
        ∙ ap (λ l. cond (ties below z x) (x ∷ l) l) (order_stable xs z)

    pub is_stable_order : (xs ys : List X) → IsSortedBy below ys → IsStableBy below xs ys
        → ys ≡ stable_order below xs
    is_stable_order xs ys s h =
        one_order ys (stable_order below xs) (ascends_of ys (sorted_far below o ys s))
        (order_ascends xs) (λ z. h z ∙ sym (order_stable xs z))
