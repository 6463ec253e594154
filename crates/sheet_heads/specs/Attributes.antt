-- Texts in attributes that may stand, or must.
use Rattle.std.specs.Prelude.{ℕ, List, [], ◌∷◌, Option, Some, None}
use Rattle.xt_names.specs.declared.codes.Code.{Code}
use Rattle.xt_names.specs.declared.codes.Code.TheVariants.{SheetStatic}
use Rattle.xt_names.specs.declared.codes.SheetStaticCode.TheVariants.{XTSE0010}

-- where it stands, its text is read
abbrev pub optional_faults : (List ℕ → List Code) → Option (List ℕ) → List Code
optional_faults f None = []
optional_faults f (Some text) = f text

abbrev pub optional_value : {A : Type 0} → (List ℕ → A) → Option (List ℕ) → Option A
optional_value f None = None
optional_value f (Some text) = Some (f text)

-- it stands, and its text is read
abbrev pub needed_faults : (List ℕ → List Code) → Option (List ℕ) → List Code
needed_faults f None = SheetStatic XTSE0010 ∷ []
needed_faults f (Some text) = f text

-- the value of a text; that of the empty one where it is missing
abbrev pub needed_value : {A : Type 0} → (List ℕ → A) → Option (List ℕ) → A
needed_value f None = f []
needed_value f (Some text) = f text
