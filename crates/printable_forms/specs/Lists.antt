-- Lists of which each item can be printed, and that are as long as their form wants.
use Rattle.std.specs.Prelude.{Bool, false, List, [], ◌∷◌}
use Rattle.expr_raws.specs.PathRaws.Forms.{Form, all_can}

-- of no item, or of two or more
abbrev pub not_one : List Form → Bool
not_one [] = all_can []
not_one (a ∷ []) = false
not_one (a ∷ b ∷ fs) = all_can (a ∷ b ∷ fs)

-- of two items or more
abbrev pub several : List Form → Bool
several [] = false
several (a ∷ []) = false
several (a ∷ b ∷ fs) = all_can (a ∷ b ∷ fs)
