-- Rules of stylesheets, each with the code that tells that it is broken.
use Rattle.std.specs.Prelude.{List, [], ◌∷◌, ◌++◌, Bool, if◌then◌else◌}
use Rattle.xt_names.specs.declared.codes.Code.{Code}
use Rattle.xt_names.specs.declared.codes.Code.TheVariants.{SheetStatic}
use Rattle.xt_names.specs.declared.codes.SheetStaticCode.{SheetStaticCode}
use Rattle.xt_names.specs.declared.codes.SheetStaticCode.TheVariants.{XTSE0280}

-- the code, where the rule is broken
abbrev pub broken : SheetStaticCode → Bool → List Code
broken code b = if b then SheetStatic code ∷ [] else []

-- what each item breaks, in order
abbrev pub each : {A : Type 0} → (A → List Code) → List A → List Code
each f [] = []
each f (x ∷ xs) = f x ++ each f xs

-- an undeclared prefix has a code of its own in stylesheets
abbrev pub as_prefix : List Code → List Code
as_prefix [] = []
as_prefix (c ∷ cs) = SheetStatic XTSE0280 ∷ []
