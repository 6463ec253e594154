-- Words on lists that std has not.
use Rattle.std.specs.Prelude.{ℕ, List, [], ◌∷◌, Bool, true, false, ◌+◌, if◌then◌else◌, max}

abbrev pub is_none : {A : Type 0} → List A → Bool
is_none [] = true
is_none (x ∷ xs) = false

abbrev pub greatest : List ℕ → ℕ
greatest [] = 0
greatest (n ∷ ns) = max n (greatest ns)

abbrev pub total : List ℕ → ℕ
total [] = 0
total (n ∷ ns) = n + total ns

-- the element before the first that is not below it
abbrev pub put_in : {X : Type 0} → (X → X → Bool) → X → List X → List X
put_in below x [] = x ∷ []
put_in below x (y ∷ ys) = if below y x then y ∷ put_in below x ys else x ∷ y ∷ ys

-- in order, and what is equal as it stood
unfoldable pub stable_order : {X : Type 0} → (X → X → Bool) → List X → List X
stable_order below [] = []
stable_order below (x ∷ xs) = put_in below x (stable_order below xs)
