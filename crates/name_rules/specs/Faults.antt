-- The first of several broken rules.
use Rattle.std.specs.Prelude.{List, [], ◌∷◌, Option, Some, None}
use Rattle.xt_names.specs.declared.codes.Code.{Code}

unfoldable pub first : List Code → Option Code
first [] = None
first (c ∷ cs) = Some c

-- the first of two, where there is one
unfoldable pub earlier : Option Code → Option Code → Option Code
earlier None later = later
earlier (Some c) later = Some c
