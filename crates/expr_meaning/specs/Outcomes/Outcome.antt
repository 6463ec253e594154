-- How a computation ends, and how outcomes follow one another.
use Rattle.std.specs.Prelude.{ℕ, List, [], ◌∷◌, ◌++◌, Result, Ok, Err}
use Rattle.xt_names.specs.declared.codes.Code.{Code}

-- with a value and the next tree number, with an error, or past the depth of calls
pub data Outcome (A : Type 0) : Type 0 where
  Ends : (value : A) (k : ℕ) → Outcome A
  Fails : (code : Code) → Outcome A
  Deep : Outcome A

-- goes on from a value; the first Fails or Deep is the outcome
abbrev pub and_then : {A B : Type 0} → Outcome A → (A → ℕ → Outcome B) → Outcome B
and_then (Ends v k) go = go v k
and_then (Fails c) go = Fails c
and_then Deep go = Deep

-- what a step without trees or calls gives
abbrev pub step_outcome : {A : Type 0} → Result A Code → ℕ → Outcome A
step_outcome (Ok v) k = Ends v k
step_outcome (Err c) k = Fails c

-- the lists that f gives, one after another
abbrev pub for_each : {A B : Type 0} →
    (A → ℕ → Outcome (List B)) → List A → ℕ → Outcome (List B)
for_each f [] k = Ends [] k
for_each f (x ∷ xs) k =
    and_then (f x k) (λ ys j. and_then (for_each f xs j) (λ zs i. Ends (ys ++ zs) i))

-- what holds of the value, where there is one
abbrev pub OnEnds : {A : Type 0} → (A → Type 0) → Outcome A → Type 0
OnEnds P (Ends v k) = P v
OnEnds P (Fails c) = Unit {0}
OnEnds P Deep = Unit {0}

abbrev pub Every : {A : Type 0} → (A → Type 0) → List A → Type 0
Every P [] = Unit {0}
Every P (x ∷ xs) = P x × Every P xs

abbrev pub Anything : {A : Type 0} → A → Type 0
Anything v = Unit {0}
