-- What becomes of a part is the part itself or smaller, and nests no deeper; so is then what becomes of
-- the whole.
use Rattle.std.proofs.Common.{◌≡◌, ℕ, ◌+◌, ◌≤◌, ◌<◌, max, List, ◌∷◌, refl, sym, ap, ◌∙◌, map, subst, arith, inl, inr}
use Rattle.std.specs.Prelude.{◌⊎◌}
use Rattle.xt_names.specs.Lists.{greatest, total}

pub record Calmer {A : Type 0} (size nest : A → ℕ) (after before : A) : Type 0 where
  pub less : (after ≡ before) ⊎ (size after < size before)
  pub flat : nest after ≤ nest before

no_more : (n : ℕ) → n ≤ n
no_more n = omega arith

pub calm : {A : Type 0} (size nest : A → ℕ) (x : A) → Calmer size nest x x
calm size nest x = record { less = inl refl; flat = no_more (nest x) }

pub calm_smaller : {A : Type 0} (size nest : A → ℕ) (x y : A) → size x < size y → nest x ≤ nest y →
    Calmer size nest x y
calm_smaller size nest x y h i = record { less = inr h; flat = i }

less_then : {A : Type 0} (size : A → ℕ) (x y z : A) → (x ≡ y) ⊎ (size x < size y) →
    (y ≡ z) ⊎ (size y < size z) → (x ≡ z) ⊎ (size x < size z)
less_then size x y z (inl p) (inl q) = inl (p ∙ q)
less_then size x y z (inl p) (inr q) = inr (subst (λ w. size w < size z) (sym p) q)
less_then size x y z (inr p) (inl q) = inr (subst (λ w. size x < size w) q p)
less_then size x y z (inr p) (inr q) = inr (by (size x) (size y) (size z) p q)
  where
    by : (a b c : ℕ) → a < b → b < c → a < c
    by a b c h i = omega arith

pub calm_then : {A : Type 0} (size nest : A → ℕ) (x y z : A) → Calmer size nest x y → Calmer size nest y z →
    Calmer size nest x z
calm_then size nest x y z h i = record {
  less = less_then size x y z h.less i.less;
  flat = by (nest x) (nest y) (nest z) h.flat i.flat;
}
  where
    by : (a b c : ℕ) → a ≤ b → b ≤ c → a ≤ c
    by a b c h i = omega arith

-- a form with one part that changes: of what size and nesting it is besides
module _ {A C : Type 0} (f : A → C) (sa na : A → ℕ) (sc nc : C → ℕ) (i j l : ℕ)
    (size_is : (a : A) → sc (f a) ≡ i + sa a) (nest_is : (a : A) → nc (f a) ≡ j + max l (na a)) where
  less_in : (x y : A) → (x ≡ y) ⊎ (sa x < sa y) → (f x ≡ f y) ⊎ (sc (f x) < sc (f y))
  less_in x y (inl p) = inl (ap f p)
  less_in x y (inr p) =
      inr (subst (λ n. n < sc (f y)) (sym (size_is x)) (subst (λ n. i + sa x < n) (sym (size_is y))
      (by (sa x) (sa y) p)))
    where
      by : (a b : ℕ) → a < b → i + a < i + b
      by a b h = omega arith

  pub calm_in : (x y : A) → Calmer sa na x y → Calmer sc nc (f x) (f y)
  calm_in x y h = record {
    less = less_in x y h.less;
    flat = subst (λ n. n ≤ nc (f y)) (sym (nest_is x)) (subst (λ n. j + max l (na x) ≤ n) (sym (nest_is y))
        (by (na x) (na y) h.flat));
  }
    where
      by : (a b : ℕ) → a ≤ b → j + max l a ≤ j + max l b
      by a b h = grind arith

-- a form with one part
pub calm_one : {A C : Type 0} (f : A → C) (sa na : A → ℕ) (sc nc : C → ℕ) (i j : ℕ) →
    ((a : A) → sc (f a) ≡ i + sa a) → ((a : A) → nc (f a) ≡ j + na a) →
    (x y : A) → Calmer sa na x y → Calmer sc nc (f x) (f y)
calm_one f sa na sc nc i j s n x y h =
    calm_in f sa na sc nc i j 0 s (λ a. n a ∙ ap (λ m. j + m) (zero_max (na a))) x y h
  where
    zero_max : (m : ℕ) → m ≡ max 0 m
    zero_max m = grind arith

-- a form with two parts
pub calm_two : {A B C : Type 0} (f : A → B → C) (sa na : A → ℕ) (sb nb : B → ℕ) (sc nc : C → ℕ) (i j : ℕ) →
    ((a : A) (b : B) → sc (f a b) ≡ i + (sa a + sb b)) →
    ((a : A) (b : B) → nc (f a b) ≡ j + max (na a) (nb b)) →
    (x y : A) → Calmer sa na x y → (u v : B) → Calmer sb nb u v → Calmer sc nc (f x u) (f y v)
calm_two f sa na sb nb sc nc i j s n x y h u v k =
    calm_then sc nc (f x u) (f y u) (f y v)
    (calm_in (λ a. f a u) sa na sc nc (i + sb u) j (nb u) (λ a. s a u ∙ front i (sa a) (sb u))
    (λ a. n a u ∙ ap (λ m. j + m) (turn (na a) (nb u))) x y h)
    (calm_in (λ b. f y b) sb nb sc nc (i + sa y) j (na y) (λ b. s y b ∙ behind i (sa y) (sb b))
    (λ b. n y b) u v k)
  where
    front : (i a b : ℕ) → i + (a + b) ≡ (i + b) + a
    front i a b = omega arith

    behind : (i a b : ℕ) → i + (a + b) ≡ (i + a) + b
    behind i a b = omega arith

    turn : (a b : ℕ) → max a b ≡ max b a
    turn a b = grind arith

-- one more item of a list
pub calm_list : {A : Type 0} (size nest : A → ℕ) (x y : A) → Calmer size nest x y → (xs ys : List A) →
    Calmer (λ l. total (map size l)) (λ l. greatest (map nest l)) xs ys →
    Calmer (λ l. total (map size l)) (λ l. greatest (map nest l)) (x ∷ xs) (y ∷ ys)
calm_list size nest x y h xs ys k =
    calm_two (λ a l. a ∷ l) size nest (λ l. total (map size l)) (λ l. greatest (map nest l))
    (λ l. total (map size l)) (λ l. greatest (map nest l)) 0 0 (λ a l. zero (size a + total (map size l)))
    (λ a l. zero (max (nest a) (greatest (map nest l)))) x y h xs ys k
  where
    zero : (n : ℕ) → n ≡ 0 + n
    zero n = omega arith
