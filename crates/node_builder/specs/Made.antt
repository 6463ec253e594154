-- What a construction comes to.
use Rattle.std.specs.Prelude.{List, [], ◌∷◌}
use Rattle.xt_names.specs.declared.codes.Code.{Code}

-- a value, or the error that it fails with
pub data Made (A : Type 0) : Type 0 where
  Gives : (value : A) → Made A
  Fails : (code : Code) → Made A

-- goes on from a value; the first error stands
abbrev pub made_then : {A B : Type 0} → Made A → (A → Made B) → Made B
made_then (Gives v) go = go v
made_then (Fails c) go = Fails c

-- one step after another
abbrev pub made_each : {A X : Type 0} → (A → X → Made A) → A → List X → Made A
made_each step b [] = Gives b
made_each step b (x ∷ xs) = made_then (step b x) (λ c. made_each step c xs)
