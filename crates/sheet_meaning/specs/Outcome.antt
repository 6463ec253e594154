-- How a transformation ends, and how its parts follow one another.
use Rattle.std.specs.Prelude.{List, ◌++◌}
use Rattle.xt_names.specs.declared.codes.Code.{Code}

-- with a value, with an error, or past the depth of calls
pub data Outcome (A : Type 0) : Type 0 where
  Ends : (value : A) → Outcome A
  Fails : (code : Code) → Outcome A
  Deep : Outcome A

-- goes on from a value; the first Fails or Deep is the outcome
abbrev pub and_then : {A B : Type 0} → Outcome A → (A → Outcome B) → Outcome B
and_then (Ends v) go = go v
and_then (Fails c) go = Fails c
and_then Deep go = Deep

-- one list and then the other, evaluated in this order
abbrev pub joined : {A : Type 0} → Outcome (List A) → Outcome (List A) → Outcome (List A)
joined first other = and_then first (λ xs. and_then other (λ ys. Ends (xs ++ ys)))

-- within the depth
abbrev pub IsOver : {A : Type 0} → Outcome A → Type 0
IsOver (Ends v) = Unit {0}
IsOver (Fails c) = Unit {0}
IsOver Deep = ⊥
