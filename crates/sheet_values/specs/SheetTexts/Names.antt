-- Names that have numbers.
use Rattle.std.specs.Prelude.{ℕ, List, [], ◌∷◌, ◌++◌, length, min, if◌then◌else◌}
use Rattle.std.specs.Prelude.{unwrap_or, position}
use Rattle.std.specs.List.{list_any}
use Rattle.xt_names.specs.declared.names.ExprName.{ExprName}
use Rattle.xt_names.specs.ExprNames.{same_name}

-- with this name at the end, unless it is there
abbrev pub with_name : List ExprName → ExprName → List ExprName
with_name names name =
    if list_any (same_name name) names then names else names ++ name ∷ []

-- the place of the name from 0, or after the last; numbers have 32 bits
abbrev pub number_of : List ExprName → ExprName → ℕ
number_of names name =
    min (unwrap_or (position (same_name name) names) (length names)) 4294967295
