-- Elements of lists.
use Rattle.std.proofs.Common.{◌≡◌, zero, suc, List, [], ◌∷◌, ◌++◌, map, Contains}
use Rattle.std.proofs.Common.{refl, sym, subst, arith}

pub data Among {A : Type 0} (x : A) : List A → Type 0 where
  first : {xs : List A} → Among x (x ∷ xs)
  later : {y : A} {xs : List A} → Among x xs → Among x (y ∷ xs)

pub there : {A : Type 0} (x y : A) → x ≡ y → Among x (y ∷ [])
there x y e = subst (λ z. Among x (z ∷ [])) e first

pub left : {A : Type 0} {x : A} {xs : List A} (ys : List A) → Among x xs → Among x (xs ++ ys)
left ys first = first
left ys (later a) = later (left ys a)

pub right : {A : Type 0} {x : A} (xs : List A) {ys : List A} → Among x ys → Among x (xs ++ ys)
right [] a = a
right (y ∷ xs) a = later (right xs a)

pub data Side {A : Type 0} (x : A) (xs ys : List A) : Type 0 where
  before : Among x xs → Side x xs ys
  behind : Among x ys → Side x xs ys

further : {A : Type 0} {x : A} (y : A) {xs ys : List A} → Side x xs ys → Side x (y ∷ xs) ys
further y (before a) = before (later a)
further y (behind a) = behind a

pub side : {A : Type 0} {x : A} (xs : List A) {ys : List A} → Among x (xs ++ ys) → Side x xs ys
side [] a = behind a
side (y ∷ xs) first = before first
side (y ∷ xs) (later a) = further y (side xs a)

pub mapped : {A B : Type 0} {x : A} (f : A → B) {xs : List A} → Among x xs → Among (f x) (map f xs)
mapped f first = first
mapped f (later a) = later (mapped f a)

pub record Origin {A B : Type 0} (f : A → B) (xs : List A) (y : B) : Type 0 where
  pub origin : A
  pub among : Among origin xs
  pub is : y ≡ f origin

one_later : {A B : Type 0} (f : A → B) (x : A) (xs : List A) (y : B) → Origin f xs y
    → Origin f (x ∷ xs) y
one_later f x xs y o = record { origin = o.origin; among = later o.among; is = o.is }

pub origin : {A B : Type 0} (f : A → B) (xs : List A) (y : B) → Among y (map f xs) → Origin f xs y
origin f [] y a = elim a [ ]
origin f (x ∷ xs) _ first = record { origin = x; among = first; is = refl }
origin f (x ∷ xs) y (later a) = one_later f x xs y (origin f xs y a)

-- .. in the word of the contracts
pub contains : {A : Type 0} {x : A} {xs : List A} → Among x xs → Contains xs x
contains first = (0, omega arith, refl)
contains (later a) = let c = contains a in (suc c.0, omega (arith, c.1), c.2)

pub among : {A : Type 0} (x : A) (xs : List A) → Contains xs x → Among x xs
among x [] (k, less, e) = absurd (omega (arith, less))
among x (y ∷ xs) (zero, less, e) = subst (λ z. Among x (z ∷ xs)) (sym e) first
among x (y ∷ xs) (suc k, less, e) = later (among x xs (k, omega (arith, less), e))
