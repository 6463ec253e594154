-- Two things are made of each part: where the first is the part itself, so is the second, and else the
-- first is smaller. So it is then with the whole.
use Rattle.std.proofs.Common.{◌≡◌, ℕ, ◌+◌, ◌≤◌, ◌<◌, List, ◌∷◌, refl, sym, ap, ap₂, map, subst, arith, inl, inr}
use Rattle.std.specs.Prelude.{◌⊎◌}
use Rattle.xt_names.specs.Lists.{total}

abbrev pub Settles : {A : Type 0} → (A → ℕ) → A → A → A → Type 0
Settles size mark after before = ((after ≡ before) × (mark ≡ before)) ⊎ (size after < size before)

pub settled : {A : Type 0} (size : A → ℕ) (x : A) → Settles size x x x
settled size x = inl (refl, refl)

at_most : {A : Type 0} (size : A → ℕ) (m x y : A) → Settles size m x y → size x ≤ size y
at_most size m x y (inl p) = subst (λ z. size z ≤ size y) (sym p.0) (no_more (size y))
  where
    no_more : (n : ℕ) → n ≤ n
    no_more n = omega arith
at_most size m x y (inr p) = less (size x) (size y) p
  where
    less : (a b : ℕ) → a < b → a ≤ b
    less a b h = omega arith

pub settle_one : {A C : Type 0} (f : A → C) (sa : A → ℕ) (sc : C → ℕ) (i : ℕ) →
    ((a : A) → sc (f a) ≡ i + sa a) → (m x y : A) → Settles sa m x y → Settles sc (f m) (f x) (f y)
settle_one f sa sc i s m x y (inl p) = inl (ap f p.0, ap f p.1)
settle_one f sa sc i s m x y (inr p) =
    inr (subst (λ n. n < sc (f y)) (sym (s x)) (subst (λ n. i + sa x < n) (sym (s y)) (by i (sa x) (sa y) p)))
  where
    by : (i a b : ℕ) → a < b → i + a < i + b
    by i a b h = omega arith

module _ {A B C : Type 0} (f : A → B → C) (sa : A → ℕ) (sb : B → ℕ) (sc : C → ℕ) (i : ℕ)
    (size_is : (a : A) (b : B) → sc (f a b) ≡ i + (sa a + sb b)) where
  smaller : (x y : A) (u v : B) → i + (sa x + sb u) < i + (sa y + sb v) → sc (f x u) < sc (f y v)
  smaller x y u v h =
      subst (λ n. n < sc (f y v)) (sym (size_is x u)) (subst (λ n. i + (sa x + sb u) < n) (sym (size_is y v)) h)

  pub settle_two : (m x y : A) → Settles sa m x y → (n u v : B) → Settles sb n u v →
      Settles sc (f m n) (f x u) (f y v)
  settle_two m x y (inl p) n u v (inl q) = inl (ap₂ f p.0 q.0, ap₂ f p.1 q.1)
  settle_two m x y (inl p) n u v (inr q) =
      inr (smaller x y u v (by i (sa x) (sa y) (sb u) (sb v) (at_most sa m x y (inl p)) q))
    where
      by : (i a b c d : ℕ) → a ≤ b → c < d → i + (a + c) < i + (b + d)
      by i a b c d h k = omega arith
  settle_two m x y (inr p) n u v k =
      inr (smaller x y u v (by i (sa x) (sa y) (sb u) (sb v) p (at_most sb n u v k)))
    where
      by : (i a b c d : ℕ) → a < b → c ≤ d → i + (a + c) < i + (b + d)
      by i a b c d h k = omega arith

pub settle_list : {A : Type 0} (size : A → ℕ) (m x y : A) → Settles size m x y → (ms xs ys : List A) →
    Settles (λ l. total (map size l)) ms xs ys → Settles (λ l. total (map size l)) (m ∷ ms) (x ∷ xs) (y ∷ ys)
settle_list size m x y h ms xs ys k =
    settle_two (λ a l. a ∷ l) size (λ l. total (map size l)) (λ l. total (map size l)) 0
    (λ a l. zero (size a + total (map size l))) m x y h ms xs ys k
  where
    zero : (n : ℕ) → n ≡ 0 + n
    zero n = omega arith
